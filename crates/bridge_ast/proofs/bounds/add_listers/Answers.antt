use Rattle.bridge_ast.proofs.BoundsLemmas.{first_none, first_more, first_all}
use Rattle.bridge_ast.proofs.bounds.add_listers.Goals as goal

pub loop-from-init : goal.loop-from-init
loop-from-init c = first_none c.args.side c.args.nodes.now c.args.lists.now c.requires.count c.requires.empty

pub loop-from-preserved : goal.loop-from-preserved
loop-from-preserved c =
    first_more c.args.side c.args.nodes.now c.loop-from.from c.index-nodes-from.result c.loop-from.lists c.add_to_each.new.lists
    c.of.result.now c.loop-from-test.true c.index-nodes-from.is c.of.ensures c.loop-from.invariant c.in_ok-add_to_each.ensures

pub returns : goal.returns
returns c =
    first_all c.args.side c.args.nodes.now c.loop-from.from c.loop-from.lists c.loop-from-test.false c.loop-from.invariant
