use Rattle.std.proofs.Common.{◌≡◌, drop, map}
use Rattle.hir_usage.specs.Seen.{used}
use Rattle.hir_usage.specs.Tables.{noted, usages}
use Rattle.hir_usage.proofs.tables.UseTable.note.Given as goal

abbrev pub invariant-loop-one : goal.invariant-loop-one
invariant-loop-one l = noted (map used (drop l.one-index l.uses)) (usages l.self) ≡ noted (map used l.uses) (usages l.fn.self)
