use Rattle.std.proofs.Common.{◌≡◌, length}
use Rattle.hir_usage_notes.specs.Notes.{each_used}
use Rattle.hir_usage_notes.proofs.notes.note_each.Given as goal

abbrev pub invariant-loop-usage : goal.invariant-loop-usage
invariant-loop-usage g l =
    each_used g.D.KeepsUsage.used_so l.usages.items l.defs.items ≡ each_used g.D.KeepsUsage.used_so l.fn.usages.items l.fn.defs.items

abbrev pub decreases-loop-usage : goal.decreases-loop-usage
decreases-loop-usage g l = length l.usages.items
