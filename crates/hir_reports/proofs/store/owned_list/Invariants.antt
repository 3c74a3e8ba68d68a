use Rattle.std.proofs.Common.{◌≡◌, take}
use Rattle.hir_reports.proofs.store.owned_list.Given as goal

abbrev pub invariant-loop-text : goal.invariant-loop-text
invariant-loop-text l = l.copies ≡ take l.text-index l.texts
