use Rattle.std.proofs.Common.{◌≡◌, ◌++◌, map, take}
use Rattle.hir_number.specs.Occurrences.{appearing}
use Rattle.hir_number_slow.specs.Seen.{appearance_seen, role_seen, written_seen}
use Rattle.hir_number_slow.proofs.occurrences.push_appearing.Given as goal

abbrev pub invariant-loop-lifetime : goal.invariant-loop-lifetime
invariant-loop-lifetime l =
    map appearance_seen l.occurrences.items
    ≡ map appearance_seen l.fn.occurrences.items ++ appearing (role_seen l.role) (map written_seen (take l.lifetime-index l.lifetimes))
