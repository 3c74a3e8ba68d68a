use Rattle.std.proofs.Common.{◌≡◌, ◌+◌, ◌≤◌, List, take, ℕ, ◌<◌, length, false, slice_index_or}
use Rattle.std.specs.Prelude.{sum_by, IsTrue, ◌↔◌}
use Rattle.definition_graph.specs.Reaching.{ReachesByEdges}
use Rattle.definition_graph.proofs.cycles.cycle_flags.Given as goal

abbrev pub invariant-loop-node : goal.invariant-loop-node
invariant-loop-node g l =
    record {
      steps : l.steps ≤ l.initial.steps + l.node + sum_by (λ (row : List ℕ). length row) (take l.node l.graph);
      each : length l.flags.items ≡ l.node;
      right : (a : ℕ) → a < l.node → (IsTrue (slice_index_or l.flags.items a false) ↔ ReachesByEdges l.graph a a);
    }
