use Rattle.bridge_borrow.proofs.Reporting.{method_fits}
use Rattle.bridge_borrow.proofs.callables.fitting_method.Goals as goal

pub returns-clause-fits : goal.returns-clause-fits
returns-clause-fits c =
    method_fits c.args.tcx.now (c.methods_of_contexts_fit.ensures.functions c.args.tcx.now) (c.methods_of_contexts_fit.ensures.methods c.args.tcx.now) c.args.id.now c.method_of.result.now
    c.method_of.ensures
