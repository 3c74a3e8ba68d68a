use Rattle.hir_reports.proofs.StoreLaws.{added_step}
use Rattle.hir_validation.specs.ImpliedBounds.{param_bound_errors}
use Rattle.hir_validation.proofs.bounds.tell_params.Goals as goal

pub loop-param-preserved : goal.loop-param-preserved
loop-param-preserved c =
    added_step (param_bound_errors c.args.tcx.now.definitions c.args.direct.now) c.args.errors.now c.loop-param.errors _ c.args.params.now c.loop-param.param-index
    c.param-item.result c.loop-param-test.true c.loop-param.invariant (rw (← c.param-item.is) c.in_ok-tell_param.ensures)
