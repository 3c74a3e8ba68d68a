use Rattle.definition_graph.proofs.Totalling.{Totals}
use Rattle.definition_graph.proofs.sums.totals.Given as goal

abbrev pub invariant-loop-node : goal.invariant-loop-node
invariant-loop-node l = Totals l.graph l.own l.limit l.order l.totals.items l.node-index
