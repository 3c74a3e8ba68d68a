use Rattle.std.proofs.Common.{◌≡◌, take}
use Rattle.std.specs.List.{flat_map}
use Rattle.hir_reports.specs.Store.{Held, Keeps, added}
use Rattle.hir_mark_contexts.specs.Told.{misplaced_mark}
use Rattle.hir_mark_contexts.proofs.testing.test_marks.Given as goal

abbrev pub invariant-loop-mark : goal.invariant-loop-mark
invariant-loop-mark l =
    (l.errors ≡ added l.initial.errors (flat_map (misplaced_mark l.context l.attrs) (take l.mark-index l.marks)))
    × ((earlier : Held) → Keeps earlier l.initial.errors → Keeps earlier l.errors)
