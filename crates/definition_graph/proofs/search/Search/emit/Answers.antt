use Rattle.std.proofs.Common.{◌≡◌, ◌-◌, ◌<◌, ◌≤◌, length, get_or, arith, rules, subst, ap, ◌∙◌, take, drop, ◌++◌}
use Rattle.std.proofs.lemmas.List.{take_all, get_or_read, length-drop}
use Rattle.definition_graph.specs.inside.SearchSteps.{MarksDone}
use Rattle.definition_graph.proofs.Stepped.{marks_more, order_more}
use Rattle.definition_graph.proofs.search.Search.emit.Goals as goal

pub loop-place-preserved : goal.loop-place-preserved
loop-place-preserved g c =
    let same : length c.loop-place.self.path.items ≡ length c.args.self.now.path.items =
    ap (λ v. length v.items) c.loop-place.invariant.path in
    let from : c.args.start ≤ c.loop-place.place = omega arith in
    let on : c.loop-place.place < length c.loop-place.self.path.items = omega arith in
    let at : c.index-node.result.now ≡ get_or c.loop-place.self.path.items c.loop-place.place 0 =
    get_or_read c.loop-place.self.path.items c.loop-place.place _ on c.index-node.ensures 0 in
    let old : get_or c.loop-place.self.path.items c.loop-place.place 0 ≡ get_or c.args.self.now.path.items c.loop-place.place 0 =
    ap (λ v. get_or v.items c.loop-place.place 0) c.loop-place.invariant.path in
    let within : c.index-node.result.now < length c.args.self.now.marks.items =
    omega (arith, at, old, c.requires.within c.loop-place.place (omega arith)) in
    record {
      marks =
          marks_more c.loop-place.self.path.items c.args.start c.loop-place.place c.len-component.result
          c.index-node.result.now c.args.self.now.marks.items c.loop-place.self.marks.items from on at
          within c.loop-place.invariant.marks;
      left = c.loop-place.invariant.left;
      path = c.loop-place.invariant.path;
      bounds = c.loop-place.invariant.bounds;
      work = c.loop-place.invariant.work;
      steps = omega arith;
      order = c.in_ok-push.ensures.items ∙ order_more c.args.self.now.order.items _ _ _ _ _ from on at c.loop-place.invariant.order;
    }

pub returns-clause-emits : goal.returns-clause-emits
returns-clause-emits g c =
    let path : c.loop-place.self.path.items ≡ c.args.self.now.path.items = ap (λ v. v.items) c.loop-place.invariant.path in
    let over : c.loop-place.place ≡ length c.args.self.now.path.items = omega arith in
    let count : c.len-component.result ≡ length c.args.self.now.order.items = search rules in
    record {
      marks =
          subst (λ xs. MarksDone xs c.args.start (length c.args.self.now.path.items) (length c.args.self.now.order.items) c.args.self.now.marks.items c.loop-place.self.marks.items) path
          (subst (λ n. MarksDone c.loop-place.self.path.items c.args.start n (length c.args.self.now.order.items) c.args.self.now.marks.items c.loop-place.self.marks.items) over
          (subst (λ n. MarksDone c.loop-place.self.path.items c.args.start c.loop-place.place n c.args.self.now.marks.items c.loop-place.self.marks.items) count
          c.loop-place.invariant.marks));
      left = ap (λ v. v.items) c.loop-place.invariant.left;
      path = c.truncate.ensures.items ∙ ap (take c.args.start) path;
      bounds = ap (λ v. v.items) c.loop-place.invariant.bounds;
      work = ap (λ v. v.items) c.loop-place.invariant.work;
      order =
          c.loop-place.invariant.order
          ∙ ap (λ xs. c.args.self.now.order.items ++ take (c.loop-place.place - c.args.start) (drop c.args.start xs)) path
          ∙ ap (λ xs. c.args.self.now.order.items ++ xs) (take_all _ _ (omega (arith, length-drop c.args.start c.args.self.now.path.items)));
    }
