use Rattle.std.proofs.Common.{◌≡◌, ◌+◌, sym, subst, arith, rules, Some}
use Rattle.std.specs.Prelude.{min, max}
use Rattle.std.proofs.lemmas.List.Elements.{Contains-get_or}
use Rattle.definition_graph.specs.Reaching.{Edge, successors}
use Rattle.definition_graph.specs.Surveying.{IsDepth}
use Rattle.definition_graph.proofs.Deepening.{IsDeepest, deepest_more, deepest_all, deepest_cycle}
use Rattle.definition_graph.proofs.depths.depth_of.Goals as goal

pub returns-in-None-clause-depth : goal.returns-in-None-clause-depth
returns-in-None-clause-depth g c =
    let graph = c.args.graph.now in
    let edge : Edge graph c.args.node c.successor-target.result =
    subst (λ x. Edge graph c.args.node x) (sym c.successor-target.ensures.value)
    (Contains-get_or (successors graph c.args.node) c.loop-place.place 0 (omega arith)) in
    deepest_cycle graph c.args.node c.successor-target.result edge
    (subst (λ d. IsDepth graph c.successor-target.result d) (sym c.in-None.ensures) (c.requires.named c.successor-target.result edge))

pub loop-place-preserved : goal.loop-place-preserved
loop-place-preserved g c =
    let graph = c.args.graph.now in
    let edge : Edge graph c.args.node c.successor-target.result =
    subst (λ x. Edge graph c.args.node x) (sym c.successor-target.ensures.value)
    (Contains-get_or (successors graph c.args.node) c.loop-place.place 0 (omega arith)) in
    let below : IsDepth graph c.successor-target.result (Some c.in-Some.depth) =
    subst (λ d. IsDepth graph c.successor-target.result d) (sym c.in-Some.ensures) (c.requires.named c.successor-target.result edge) in
    record {
      deepest =
          subst (λ m. IsDeepest graph c.args.node (c.loop-place.place + 1) m) (let e : max c.loop-place.most (min (c.in-Some.depth + 1) 257) ≡ c.max-most.result = search rules in e)
          (deepest_more graph c.args.node c.loop-place.place c.loop-place.most c.in-Some.depth (omega arith) c.loop-place.invariant.deepest
          (subst (λ x. IsDepth graph x (Some c.in-Some.depth)) c.successor-target.ensures.value below));
      steps = omega (arith, c.tick.ensures, c.loop-place.invariant.steps);
    }

pub returns-clause-depth : goal.returns-clause-depth
returns-clause-depth g c = deepest_all c.args.graph.now c.args.node c.loop-place.place c.loop-place.most (omega arith) c.loop-place.invariant.deepest
