use Rattle.std.proofs.Common.{ℕ, ◌+◌, ◌≤◌, length, take}
use Rattle.std.specs.Prelude.{sum_by}
use Rattle.definition_graph.specs.Reaching.{successors}
use Rattle.definition_graph.proofs.Flagging.{Deepens}
use Rattle.definition_graph.proofs.depths.node_depths.Given as goal

abbrev pub invariant-loop-node : goal.invariant-loop-node
invariant-loop-node g l =
    record {
      deepens : Deepens l.graph l.order l.reaches_itself l.depths.items l.node-index;
      steps : l.steps ≤ l.initial.steps + sum_by (λ (a : ℕ). length (successors l.graph a) + 1) (take l.node-index l.order);
    }
