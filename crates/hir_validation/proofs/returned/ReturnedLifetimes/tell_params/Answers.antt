use Rattle.hir_reports.proofs.StoreLaws.{added_step}
use Rattle.hir_validation.specs.Returned.{returned_param_errors}
use Rattle.hir_validation.proofs.returned.ReturnedLifetimes.tell_params.Goals as goal

pub loop-param-preserved : goal.loop-param-preserved
loop-param-preserved c =
    added_step (returned_param_errors c.args.self.now.env c.args.self.now.returned) c.args.errors.now c.loop-param.errors _ c.args.params.now c.loop-param.param-index
    c.param-item.result c.loop-param-test.true c.loop-param.invariant (rw (← c.param-item.is) c.in_ok-tell_param.ensures)
