use Rattle.std.proofs.Common.{◌≡◌, ◌+◌, ◌≤◌, false, drop, length, map}
use Rattle.hir_elide.specs.Numbering.{count_after}
use Rattle.hir_elide.specs.Occurrences.{count_of}
use Rattle.hir_number_slow.specs.Seen.{signature_seen, written_seen}
use Rattle.hir_number_slow.proofs.before.slow_count.Given as goal

abbrev pub invariant-loop-occurrence : goal.invariant-loop-occurrence
invariant-loop-occurrence l = record {
  count : count_of (signature_seen l.declared l.occurrences false) ≡ count_after l.count (map (λ o. written_seen o.lifetime) (drop l.occurrence-index l.occurrences));
  bound : l.count ≤ length l.declared.nodes + l.occurrence-index;
}
