use Rattle.bridge_grid.specs.ParamBreaks.{CallbackParamBreaks}
use Rattle.bridge_grid.specs.Params.{callback_param_faults}
use Rattle.bridge_grid.proofs.TellsLemmas.{told_of}
use Rattle.bridge_grid.proofs.TypeLemmas.{tells_callback_param}
use Rattle.bridge_grid.proofs.testing.test_callback_param.Goals as goal

pub returns-clause-rules : goal.returns-clause-rules
returns-clause-rules c =
    let a = c.args in
    told_of c.callback_param_faults.result (callback_param_faults a.support.now a.config a.catalog.now a.ty.now) (CallbackParamBreaks a.support.now a.config a.catalog.now a.ty.now) c.callback_param_faults.ensures (tells_callback_param a.support.now a.config a.catalog.now a.ty.now)
