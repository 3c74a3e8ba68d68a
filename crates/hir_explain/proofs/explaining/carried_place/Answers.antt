use Rattle.std.proofs.Common.{sym}
use Rattle.hir_explain.proofs.Finding.{none_from}
use Rattle.hir_explain.proofs.Tests.{apart_more, contains_taken}
use Rattle.hir_explain.proofs.explaining.carried_place.Goals as goal

pub loop-lifetime-preserved : goal.loop-lifetime-preserved
loop-lifetime-preserved c =
    apart_more c.args.carried.now c.args.search.now.reached _ _ c.loop-lifetime-test.true c.lifetime-item.is
    (none_from _ _ _ (sym c.if-is_some.ensures) c.place_of_one-place.ensures) c.loop-lifetime.invariant

pub returns : goal.returns
returns c = λ l carries.
    c.loop-lifetime.invariant l (contains_taken c.args.carried.now _ _ c.loop-lifetime-test.false carries)
