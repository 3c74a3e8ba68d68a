use Rattle.std.proofs.Common.{◌≡◌, drop, map}
use Rattle.hir_number.specs.Occurrences.{has_own}
use Rattle.hir_number_slow.specs.Seen.{placed_seen}
use Rattle.hir_number_slow.proofs.occurrences.has_own.Given as goal

abbrev pub invariant-loop-placed : goal.invariant-loop-placed
invariant-loop-placed l = has_own (map placed_seen l.uses) ≡ has_own (map placed_seen (drop l.placed-index l.uses))
