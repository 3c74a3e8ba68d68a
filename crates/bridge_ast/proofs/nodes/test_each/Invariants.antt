use Rattle.std.proofs.Common.{◌≡◌, take, []}
use Rattle.bridge_ast.specs.Each.{each}
use Rattle.bridge_ast.specs.EnvFaults.{nodes_named, node_faults}
use Rattle.bridge_text.specs.NameIndex.{HasMeanings}
use Rattle.bridge_ast.proofs.nodes.test_each.Given as goal

abbrev pub invariant-loop-number : goal.invariant-loop-number
invariant-loop-number l = record {
  names : HasMeanings l.names (nodes_named l.owner.item l.owner.method (take l.number l.nodes));
  none : each (node_faults l.owner.«module» l.owner.item l.owner.method l.nodes) (take l.number l.nodes) ≡ [];
}
