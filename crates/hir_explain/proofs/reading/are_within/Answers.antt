use Rattle.std.proofs.Common.{◌<◌, refl}
use Rattle.hir_explain.proofs.Tests.{all_more, all_tested}
use Rattle.hir_explain.proofs.reading.are_within.Goals as goal

pub loop-lifetime-preserved : goal.loop-lifetime-preserved
loop-lifetime-preserved c =
    all_more (λ n. n < c.args.env.now.count) c.args.list.now _ _ c.loop-lifetime-test.true c.lifetime-item.is
    (c.contains.ensures.0 c.if-not-contains.false) c.loop-lifetime.invariant

pub returns : goal.returns
returns c =
    (λ _. all_tested (λ n. n < c.args.env.now.count) c.args.list.now _ c.loop-lifetime-test.false c.loop-lifetime.invariant, λ _. refl)
