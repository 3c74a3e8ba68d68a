use Rattle.std.proofs.Common.{refl}
use Rattle.hir_life.specs.Substitution.{IsBelow}
use Rattle.hir_explain.proofs.Tests.{all_more, all_tested}
use Rattle.hir_explain.proofs.reading.are_carried_within.Goals as goal

pub loop-lifetime-preserved : goal.loop-lifetime-preserved
loop-lifetime-preserved c =
    all_more (IsBelow c.args.env.now.count) c.args.carried.now _ _ c.loop-lifetime-test.true c.lifetime-item.is
    (c.is_within.ensures.0 c.if-not-is_within.false) c.loop-lifetime.invariant

pub returns : goal.returns
returns c = (
  λ _. all_tested (IsBelow c.args.env.now.count) c.args.carried.now _ c.loop-lifetime-test.false c.loop-lifetime.invariant,
  λ _. refl,
)
