use Rattle.std.proofs.Common.{◌≡◌, ◌+◌}
use Rattle.definition_graph.proofs.Deepening.{IsDeepest}
use Rattle.definition_graph.proofs.depths.depth_of.Given as goal

abbrev pub invariant-loop-place : goal.invariant-loop-place
invariant-loop-place g l =
    record {
      deepest : IsDeepest l.graph l.node l.place l.most;
      steps : l.steps ≡ l.initial.steps + l.place;
    }
