use Rattle.std.proofs.Common.{subst}
use Rattle.std.specs.List.{All}
use Rattle.std.proofs.lemmas.List.{take_all}
use Rattle.std.proofs.lemmas.List.Elements.{All-more}
use Rattle.hir_fitting.specs.Fitting.{IsKnown}
use Rattle.hir_fitting.proofs.fitting.all_known.Goals as goal

pub loop-lifetime-preserved : goal.loop-lifetime-preserved
loop-lifetime-preserved c =
    All-more (IsKnown c.args.count) c.args.lifetimes.now c.loop-lifetime.lifetime-index c.lifetime-item.result c.loop-lifetime-test.true c.loop-lifetime.invariant
    (subst (IsKnown c.args.count) c.lifetime-item.is (c.is_known.ensures.0 cc))

pub returns : goal.returns
returns c =
    subst (All (IsKnown c.args.count)) (take_all c.loop-lifetime.lifetime-index c.args.lifetimes.now c.loop-lifetime-test.false) c.loop-lifetime.invariant
