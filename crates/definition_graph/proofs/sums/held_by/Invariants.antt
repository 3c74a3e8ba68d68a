use Rattle.std.proofs.Common.{◌≡◌, ◌+◌, take, slice_index}
use Rattle.std.specs.Prelude.{min, sum_by}
use Rattle.definition_graph.specs.Reaching.{successors}
use Rattle.definition_graph.proofs.sums.held_by.Given as goal

abbrev pub invariant-loop-place : goal.invariant-loop-place
invariant-loop-place l = l.total ≡ min l.limit (l.own + sum_by (slice_index l.totals) (take l.place (successors l.graph l.node)))
