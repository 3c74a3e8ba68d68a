use Rattle.std.proofs.Common.{◌≡◌, take}
use Rattle.std.specs.List.{flat_map}
use Rattle.hir_reports.specs.Store.{added}
use Rattle.hir_validation.specs.Structs.{field_errors}
use Rattle.hir_validation.proofs.validation.Validation.tell_fields.Given as goal

abbrev pub invariant-loop-field : goal.invariant-loop-field
invariant-loop-field l =
    l.errors ≡ added l.initial.errors (flat_map (field_errors l.self.callbacks_must_fail l.self.tcx.now.definitions) (take l.field-index l.fields))
