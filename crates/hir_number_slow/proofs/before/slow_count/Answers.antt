use Rattle.std.proofs.Common.{arith, ap, length}
use Rattle.hir_elide.specs.Numbering.{count_after}
use Rattle.hir_number_slow.proofs.NumberLemmas.{lifetimes_seen}
use Rattle.hir_number_slow.proofs.before.slow_count.Goals as goal

pub loop-occurrence-init : goal.loop-occurrence-init
loop-occurrence-init c =
    rw c.as_slice-count.ensures (record {
      count = ap (count_after (length c.args.declared.now.nodes)) (lifetimes_seen c.args.occurrences.now);
      bound = omega arith;
    })
