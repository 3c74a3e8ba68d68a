use Rattle.std.proofs.Common.{◌<◌, get_or, length}
use Rattle.std.specs.List.{All}
use Rattle.hir_explain.proofs.Chaining.{IsRun}
use Rattle.hir_explain.proofs.explaining.chain_from.Given as goal

abbrev pub invariant-loop-at : goal.invariant-loop-at
invariant-loop-at l =
    record {
      standing : l.at < length l.search.reached;
      run : IsRun l.search.environment (get_or l.search.reached l.fn.place 0) l.chain (get_or l.search.reached l.at 0);
      within : All (λ k. k < l.search.environment.count) l.chain;
    }

abbrev pub decreases-loop-at : goal.decreases-loop-at
decreases-loop-at l = l.at
