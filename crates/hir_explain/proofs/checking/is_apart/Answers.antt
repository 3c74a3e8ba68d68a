use Rattle.std.proofs.Common.{refl}
use Rattle.hir_explain.specs.inside.Numbers.{HasNumber}
use Rattle.hir_explain.proofs.Tests.{apart_more, contains_taken, has_carried_one, no_from, says_no}
use Rattle.hir_explain.proofs.checking.is_apart.Goals as goal

pub returns-then-has_carried : goal.returns-then-has_carried
returns-then-has_carried c =
    no_from _
    (has_carried_one c.args.carried.now c.args.long.now _ _ c.loop-lifetime-test.true c.lifetime-item.is (c.has_carried.ensures.0 c.if-has_carried.true))

pub loop-lifetime-preserved : goal.loop-lifetime-preserved
loop-lifetime-preserved c =
    apart_more c.args.carried.now c.args.long.now _ _ c.loop-lifetime-test.true c.lifetime-item.is
    (says_no _ (HasNumber c.args.long.now c.lifetime-item.result) c.has_carried.ensures c.if-has_carried.false) c.loop-lifetime.invariant

pub returns : goal.returns
returns c = (
  λ _ l carries. c.loop-lifetime.invariant l (contains_taken c.args.carried.now _ _ c.loop-lifetime-test.false carries),
  λ _. refl,
)
