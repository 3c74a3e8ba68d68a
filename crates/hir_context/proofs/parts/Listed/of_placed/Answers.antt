use Rattle.std.proofs.Common.{◌∷◌, [], length, arith, ap, sym, ◌∙◌}
use Rattle.std.proofs.lemmas.List.{append-nil, length-append}
use Rattle.hir_context.proofs.Parting.{made_all, made_more, taken_last}
use Rattle.hir_context.proofs.parts.Listed.of_placed.Goals as goal

pub loop-last-init : goal.loop-last-init
loop-last-init g c = ([], sym (append-nil c.args.placed), (c.new-defs.ensures.items, c.new-modules.ensures.items))

pub loop-last-smaller : goal.loop-last-smaller
loop-last-smaller g c =
    let here = ap length c.in-Some.ensures in
    let long = length-append c.pop.new.self (c.in-Some.last ∷ []) in
    omega (arith, here, long)

pub loop-last-preserved : goal.loop-last-preserved
loop-last-preserved g c = (
  c.in-Some.last ∷ c.loop-last.invariant.0,
  taken_last c.args.placed c.loop-last.left c.pop.new.self c.in-Some.last c.loop-last.invariant.0 c.loop-last.invariant.1 c.in-Some.ensures,
  (
    c.in_ok-push.ensures.items ∙ made_more (λ p. p.def) c.in-Some.last c.loop-last.invariant.0 c.loop-last.defs.items c.loop-last.invariant.2.0,
    c.in_ok-push-2.ensures.items ∙ made_more (λ p. p.module) c.in-Some.last c.loop-last.invariant.0 c.loop-last.modules.items c.loop-last.invariant.2.1,
  ),
)

pub returns : goal.returns
returns g c = record {
  defs =
      made_all (λ p. p.def) c.args.placed c.loop-last.left c.loop-last.invariant.0 c.loop-last.defs.items c.from_vec.result c.loop-last.invariant.1 c.in_default.ensures.0 c.loop-last.invariant.2.0
      (c.from_vec.ensures ∙ c.reverse.ensures.items);
  modules =
      made_all (λ p. p.module) c.args.placed c.loop-last.left c.loop-last.invariant.0 c.loop-last.modules.items c.from_vec-2.result c.loop-last.invariant.1 c.in_default.ensures.0 c.loop-last.invariant.2.1
      (c.from_vec-2.ensures ∙ c.reverse-2.ensures.items);
}
