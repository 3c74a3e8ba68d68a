use Rattle.std.proofs.Common.{◌≡◌, ◌++◌, map, take}
use Rattle.hir_number.specs.Signatures.{placed}
use Rattle.hir_number_slow.specs.Seen.{part_seen, placed_seen, use_seen}
use Rattle.hir_number_slow.proofs.signatures.place.Given as goal

abbrev pub invariant-loop-used : goal.invariant-loop-used
invariant-loop-used l =
    map placed_seen l.list.items ≡ map placed_seen l.fn.list.items ++ placed (part_seen l.part) (map use_seen (take l.used-index l.uses))
