use Rattle.std.proofs.Common.{◌≡◌, take}
use Rattle.hir_backends.proofs.known.sorted_pairs.Given as goal

abbrev pub invariant-loop-pair : goal.invariant-loop-pair
invariant-loop-pair l = l.sorted.items ≡ take l.pair-index l.pairs
