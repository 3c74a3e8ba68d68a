use Rattle.std.proofs.Common.{◌≡◌, take}
use Rattle.std.specs.List.{flat_map}
use Rattle.hir_usage.specs.Callbacks.{method_usages}
use Rattle.hir_usage.specs.Tables.{noted, usages}
use Rattle.hir_usage_notes.proofs.uses.note_methods.Given as goal

abbrev pub invariant-loop-method : goal.invariant-loop-method
invariant-loop-method l = usages l.table ≡ noted (flat_map method_usages (take l.method-index l.methods)) (usages l.fn.table)
