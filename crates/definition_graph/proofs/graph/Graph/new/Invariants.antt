use Rattle.std.proofs.Common.{◌≡◌, [], replicate}
use Rattle.definition_graph.specs.inside.Rows.{rows_of}
use Rattle.definition_graph.proofs.graph.Graph.new.Given as goal

abbrev pub invariant-loop : goal.invariant-loop
invariant-loop l = rows_of l.rows ≡ replicate l.counter []
