use Rattle.std.proofs.Common.{[]}
use Rattle.hir_reports.proofs.StoreLaws.{added_step}
use Rattle.hir_validation.specs.ImpliedBounds.{outliving_errors}
use Rattle.hir_validation.proofs.shorter.Shorter.tell_each_behind.Goals as goal

pub loop-lifetime-preserved : goal.loop-lifetime-preserved
loop-lifetime-preserved c =
    let it = c.args.self.now in
    added_step (outliving_errors it.env it.source it.number it.bounds []) c.args.errors.now c.loop-lifetime.errors _ c.args.given.now c.loop-lifetime.lifetime-index
    c.lifetime-item.result c.loop-lifetime-test.true c.loop-lifetime.invariant (rw (← c.lifetime-item.is) c.in_ok-tell_behind.ensures)
