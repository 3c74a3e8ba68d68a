use Rattle.std.proofs.Common.{◌≡◌, ◌+◌, ℕ, ◌<◌, slice_index}
use Rattle.definition_graph.specs.Reaching.{successors}
use Rattle.definition_graph.proofs.cycles.is_on_cycle.Given as goal

abbrev pub invariant-loop-place : goal.invariant-loop-place
invariant-loop-place g l =
    record {
      apart : (k : ℕ) → k < l.place → slice_index l.components.number.items (slice_index (successors l.graph l.node) k) ≡ slice_index l.components.number.items l.node → ⊥;
      steps : l.steps ≡ l.initial.steps + l.place;
    }
