use Rattle.std.proofs.Common.{arith}
use Rattle.hir_nesting.proofs.Judging.{all_told}
use Rattle.hir_nesting.proofs.nesting.graph_faults.Goals as goal

pub returns : goal.returns
returns c =
    let count = c.len-node-end.ensures.count in
    let over = c.loop-node-test.false in
    let within = c.loop-node.auto.node-end in
    all_told c.args.graph.now c.in_ok-survey.survey.depth.items c.loop-node.faults.items c.loop-node.node c.in_ok-survey.ensures.depths (omega (arith, count, over, within)) c.loop-node.invariant.0 c.loop-node.invariant.1
