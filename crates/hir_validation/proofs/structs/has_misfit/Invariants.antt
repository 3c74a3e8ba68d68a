use Rattle.std.proofs.Common.{◌≡◌, false, take}
use Rattle.std.specs.List.{list_any}
use Rattle.hir_validation.specs.Structs.{breaks_layout}
use Rattle.hir_validation.proofs.structs.has_misfit.Given as goal

abbrev pub invariant-loop-field : goal.invariant-loop-field
invariant-loop-field l = list_any (breaks_layout l.tcx.definitions) (take l.field-index l.fields) ≡ false
