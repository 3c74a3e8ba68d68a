use Rattle.std.proofs.Common.{◌≡◌, ℕ, List, map, take, ◌<◌, length, slice_index}
use Rattle.definition_graph.specs.Reaching.{successors}
use Rattle.definition_graph.proofs.search.Search.new.Given as goal

abbrev pub invariant-loop-node : goal.invariant-loop-node
invariant-loop-node l =
    record {
      each : length l.left.items ≡ l.node;
      rows : l.left.items ≡ map (λ (row : List ℕ). length row) (take l.node l.graph);
      full : (k : ℕ) → k < l.node → slice_index l.left.items k ≡ length (successors l.graph k);
    }
