use Rattle.std.proofs.Common.{◌≡◌, take}
use Rattle.hir_backends.proofs.known.sorted_texts.Given as goal

abbrev pub invariant-loop-text : goal.invariant-loop-text
invariant-loop-text l = l.sorted.items ≡ take l.text-index l.texts
