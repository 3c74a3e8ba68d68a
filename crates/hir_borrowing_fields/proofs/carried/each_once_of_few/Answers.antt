use Rattle.std.proofs.Common.{ap, ◌∙◌}
use Rattle.hir_borrowing_fields.specs.inside.Carried.{with_once}
use Rattle.hir_borrowing_fields.proofs.CarriedLemmas.{once_next}
use Rattle.hir_borrowing_fields.proofs.carried.each_once_of_few.Goals as goal

pub loop-lifetime-preserved : goal.loop-lifetime-preserved
loop-lifetime-preserved c =
    c.in_ok-add_once.ensures
    ∙ ap (λ once. with_once once c.lifetime-item.result) c.loop-lifetime.invariant
    ∙ once_next c.as_slice-lifetime-items.result.now c.loop-lifetime.lifetime-index c.lifetime-item.result c.loop-lifetime-test.true c.lifetime-item.is
