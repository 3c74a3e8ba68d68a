use Rattle.std.proofs.Common.{◌∙◌, subst, sym, arith, rules}
use Rattle.std.specs.List.{Contains}
use Rattle.std.proofs.lemmas.List.Elements.{Contains-get_or}
use Rattle.hir_life.proofs.Marking.{reaches_step}
use Rattle.hir_life.proofs.reaching.reach_all.Goals as goal

pub reach-requires-clause-within : goal.reach-requires-clause-within
reach-requires-clause-within c =
    let has : Contains c.args.lifetimes.now c.index-number.result =
    subst (λ x. Contains c.args.lifetimes.now x) (sym c.lifetime-item.is ∙ sym c.index-number.ensures)
    (Contains-get_or c.args.lifetimes.now c.loop-lifetime.lifetime-index c.lifetime-item.result (omega arith)) in
    omega (arith, c.requires.within c.index-number.result has, c.loop-lifetime.invariant.flags)

pub loop-lifetime-preserved : goal.loop-lifetime-preserved
loop-lifetime-preserved c =
    record {
      room = search rules;
      flags = search rules;
      marks = c.reach.ensures.marks;
      reaches =
          reaches_step _ _ _ _ _ _ _ (omega arith) c.lifetime-item.is c.index-number.ensures
          c.loop-lifetime.invariant.reaches c.reach.ensures.reaches;
    }
