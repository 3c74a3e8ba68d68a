use Rattle.bridge_grid.specs.ParamBreaks.{ParamBreaks}
use Rattle.bridge_grid.specs.Params.{param_faults}
use Rattle.bridge_grid.proofs.TellsLemmas.{told_of}
use Rattle.bridge_grid.proofs.TypeLemmas.{tells_param}
use Rattle.bridge_grid.proofs.testing.test_param.Goals as goal

pub returns-clause-rules : goal.returns-clause-rules
returns-clause-rules c =
    let a = c.args in
    told_of c.param_faults.result (param_faults a.support.now a.config a.catalog.now a.ty.now) (ParamBreaks a.support.now a.config a.catalog.now a.ty.now) c.param_faults.ensures (tells_param a.support.now a.config a.catalog.now a.ty.now)
