use Rattle.std.proofs.Common.{◌≡◌, take}
use Rattle.std.specs.List.{flat_map}
use Rattle.hir_usage.specs.Tables.{noted, usages}
use Rattle.hir_usage_notes.proofs.uses.note_each.Given as goal

abbrev pub invariant-loop-def : goal.invariant-loop-def
invariant-loop-def g l =
    usages l.table ≡ noted (flat_map g.D.UsesDefinitions.usages_of (take l.def-index l.defs)) (usages l.fn.table)
