use Rattle.std.proofs.Common.{ap, map}
use Rattle.hir_number.specs.Occurrences.{has_own, use_occurrences}
use Rattle.hir_number_slow.specs.Seen.{appearance_seen, placed_seen}
use Rattle.hir_number_slow.proofs.StepLemmas.{each_on}
use Rattle.hir_number_slow.proofs.occurrences.slow_occurrences.Goals as goal

pub loop-index-preserved : goal.loop-index-preserved
loop-index-preserved c =
    let next = placed_seen c.index-uses-index.result in
    each_on placed_seen (λ before p. use_occurrences (has_own before) p) c.args.uses.now c.loop-index.index c.index-uses-index.result c.loop-index-test.true
    c.index-uses-index.is (map appearance_seen c.push_use.new.occurrences.items) (map appearance_seen c.loop-index.occurrences.items)
    (use_occurrences c.has_own.result next) c.in_ok-push_use.ensures (ap (λ met. use_occurrences met next) c.has_own.ensures) c.loop-index.invariant
