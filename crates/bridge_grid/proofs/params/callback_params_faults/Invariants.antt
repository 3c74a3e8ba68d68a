use Rattle.std.proofs.Common.{◌≡◌, take}
use Rattle.std.specs.List.{flat_map}
use Rattle.bridge_grid.specs.Params.{callback_param_faults}
use Rattle.bridge_grid.proofs.params.callback_params_faults.Given as goal

abbrev pub invariant-loop-ty : goal.invariant-loop-ty
invariant-loop-ty l = l.faults ≡ flat_map (callback_param_faults l.support l.config l.catalog) (take l.ty-index l.inputs)
