use Rattle.std.proofs.Common.{◌≡◌, take}
use Rattle.std.specs.List.{flat_map}
use Rattle.bridge_grid.specs.Params.{param_faults}
use Rattle.hir_form.proofs.signatures.params_faults.Given as goal

abbrev pub invariant-loop-ty : goal.invariant-loop-ty
invariant-loop-ty l = l.faults ≡ flat_map (param_faults l.support l.config l.catalog) (take l.ty-index l.params)
