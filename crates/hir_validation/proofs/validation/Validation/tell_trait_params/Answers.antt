use Rattle.hir_reports.proofs.StoreLaws.{added_step}
use Rattle.hir_validation.specs.Signatures.{lowered_trait_param_errors}
use Rattle.hir_validation.proofs.validation.Validation.tell_trait_params.Goals as goal

pub loop-param-preserved : goal.loop-param-preserved
loop-param-preserved c =
    let it = c.args.self.now in
    added_step (lowered_trait_param_errors it.callbacks_must_fail it.tcx.now.definitions) c.args.errors.now c.loop-param.errors _ c.args.params.now c.loop-param.param-index
    c.param-item.result c.loop-param-test.true c.loop-param.invariant (rw (← c.param-item.is) c.in_ok-tell_visited.ensures)
