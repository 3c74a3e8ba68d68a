use Rattle.std.proofs.Common.{◌≡◌, ◌+◌, get_or, sym, ap, subst}
use Rattle.std.specs.Prelude.{min, sum_by}
use Rattle.definition_graph.specs.Reaching.{successors}
use Rattle.definition_graph.specs.Surveying.{IsDepth}
use Rattle.definition_graph.proofs.Totalling.{Totals, totals_more, totals_cycle, totals_all, not_some}
use Rattle.definition_graph.proofs.sums.totals.Goals as goal
use Rattle.definition_graph.proofs.sums.totals.Goals.{then-is_some, else-is_some}

pub loop-node-preserved : goal.loop-node-preserved
loop-node-preserved c =
    elim c.if-is_some.branch [
      | then-is_some w ↦
          totals_more c.args.graph.now c.args.own.now c.args.limit c.args.order.now c.loop-node.totals.items c.args.depths.now
          c.loop-node.node-index c.requires.order c.requires.depths c.len.ensures.sound c.loop-node-test.true c.loop-node.invariant
          w.held_by.result _ (subst (λ xs. w.held_by.result ≡ min c.args.limit (get_or c.args.own.now (get_or c.args.order.now c.loop-node.node-index 0) 0 + sum_by (λ b. get_or xs b 0) (successors c.args.graph.now (get_or c.args.order.now c.loop-node.node-index 0)))) w.deref.ensures.value w.held_by.ensures) (ap (λ v. v.items) w.totals-is)
      | else-is_some w ↦
          subst (λ v. Totals c.args.graph.now c.args.own.now c.args.limit c.args.order.now v.items (c.loop-node.node-index + 1)) (sym w.totals-is)
          (totals_cycle c.args.graph.now c.args.own.now c.args.limit c.args.order.now c.loop-node.totals.items c.args.depths.now
          c.loop-node.node-index c.requires.order c.requires.depths c.len.ensures.sound c.loop-node-test.true c.loop-node.invariant
          (subst (λ d. IsDepth c.args.graph.now (get_or c.args.order.now c.loop-node.node-index 0) d) (not_some _ w.if-is_some.ensures)
          (c.requires.depths.right _ (c.requires.order.within c.loop-node.node-index c.loop-node-test.true))))
    ]

pub returns : goal.returns
returns c =
    totals_all c.args.graph.now c.args.own.now c.args.limit c.args.order.now c.loop-node.totals.items c.loop-node.node-index
    c.requires.order c.loop-node-test.false c.loop-node.invariant
