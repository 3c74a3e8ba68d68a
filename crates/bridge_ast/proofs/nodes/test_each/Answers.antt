use Rattle.std.proofs.Common.{take}
use Rattle.std.proofs.lemmas.Result.{err_from_is_err_and}
use Rattle.bridge_ast.specs.EnvFaults.{nodes_named}
use Rattle.bridge_ast.proofs.NodeLemmas.{node_kept, node_stopped, nodes_named_more}
use Rattle.bridge_ast.proofs.nodes.test_each.Goals as goal

pub returns-in_err-test_node : goal.returns-in_err-test_node
returns-in_err-test_node c =
    let p = err_from_is_err_and c.from_residual-in_err-test_node.result c.from_residual-in_err-test_node.ensures.1 in
    let i = c.loop-number.number in
    let owner = c.args.owner in
    let nodes = c.args.nodes.now in
    rw (p.1, p.2)
    (node_stopped owner.«module» owner.item owner.method nodes i c.index-nodes-number.result c.place_of.result
    c.in_err-test_node.field-0.0 c.loop-number-test.true c.index-nodes-number.is c.place_of.ensures
    c.loop-number.invariant.none
    (c.in_err-test_node.ensures.told (nodes_named owner.item owner.method (take i nodes)) nodes c.loop-number.invariant.names
    c.in_ok-bounds.ensures c.loop-number-test.true))

pub loop-number-preserved : goal.loop-number-preserved
loop-number-preserved c =
    let i = c.loop-number.number in
    let owner = c.args.owner in
    let nodes = c.args.nodes.now in
    let before = nodes_named owner.item owner.method (take i nodes) in
    record {
      names =
          nodes_named_more owner.«module» owner.item owner.method nodes i c.index-nodes-number.result c.place_of.result
          c.test_node.new.names c.loop-number-test.true c.index-nodes-number.is c.place_of.ensures
          (c.in_ok-test_node.ensures.kept before c.loop-number.invariant.names);
      none =
          node_kept owner.«module» owner.item owner.method nodes i c.index-nodes-number.result c.place_of.result
          c.loop-number-test.true c.index-nodes-number.is c.place_of.ensures c.loop-number.invariant.none
          (c.in_ok-test_node.ensures.told before nodes c.loop-number.invariant.names c.in_ok-bounds.ensures
          c.loop-number-test.true);
    }
