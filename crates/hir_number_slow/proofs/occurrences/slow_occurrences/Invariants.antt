use Rattle.std.proofs.Common.{◌≡◌, map, take}
use Rattle.hir_number.specs.Occurrences.{occurrences}
use Rattle.hir_number_slow.specs.Seen.{appearance_seen, placed_seen}
use Rattle.hir_number_slow.proofs.occurrences.slow_occurrences.Given as goal

abbrev pub invariant-loop-index : goal.invariant-loop-index
invariant-loop-index l = map appearance_seen l.occurrences.items ≡ occurrences (map placed_seen (take l.index l.uses))
