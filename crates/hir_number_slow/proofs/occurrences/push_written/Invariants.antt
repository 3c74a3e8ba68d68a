use Rattle.std.proofs.Common.{◌≡◌, ◌++◌, map, take}
use Rattle.hir_number_slow.specs.Seen.{written_seen}
use Rattle.hir_number_slow.proofs.occurrences.push_written.Given as goal

abbrev pub invariant-loop-lifetime : goal.invariant-loop-lifetime
invariant-loop-lifetime l =
    map written_seen l.lifetimes.items ≡ map written_seen l.fn.lifetimes.items ++ take l.lifetime-index l.path
