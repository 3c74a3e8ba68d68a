use Rattle.std.proofs.Common.{◌≡◌, arith, ◌+◌, get_or, refl, sym, ap, subst, None, ℕ, take, length}
use Rattle.std.specs.Prelude.{sum_by}
use Rattle.std.proofs.lemmas.List.Sums.{sum_by_more}
use Rattle.std.proofs.lemmas.List.{take_all}
use Rattle.definition_graph.proofs.Counting.{order_sum}
use Rattle.definition_graph.specs.Reaching.{successors}
use Rattle.definition_graph.specs.Surveying.{IsDepth}
use Rattle.definition_graph.proofs.Flagging.{Deepens, named_before, deepens_cycle, deepens_more, deepens_all}
use Rattle.definition_graph.proofs.depths.node_depths.Goals as goal
use Rattle.definition_graph.proofs.depths.node_depths.Goals.{then-not-reaches_itself-node, else-not-reaches_itself-node}

pub depth_of-requires-clause-named : goal.depth_of-requires-clause-named
depth_of-requires-clause-named g c =
    λ b edge.
    subst (λ xs. IsDepth c.args.graph.now b (get_or xs b None)) (sym c.deref.ensures.value)
    (named_before _ _ _ _ _ c.requires.order c.requires.flags c.loop-node-test.true c.loop-node.invariant.deepens c.if-not-reaches_itself-node.true b edge)

pub loop-node-preserved : goal.loop-node-preserved
loop-node-preserved g c =
    let more =
    sum_by_more (λ (a : ℕ). length (successors c.args.graph.now a) + 1) c.args.order.now c.loop-node.node-index 0 c.loop-node-test.true in
    record {
      deepens =
          elim c.if-not-reaches_itself-node.branch [
            | then-not-reaches_itself-node w ↦
                deepens_more c.args.graph.now c.args.order.now c.args.reaches_itself.now c.loop-node.depths.items
                c.loop-node.node-index c.requires.order c.requires.flags c.loop-node-test.true c.loop-node.invariant.deepens _ w.depth_of.result
                _ refl w.if-not-reaches_itself-node.true w.depth_of.ensures.depth (ap (λ v. v.items) w.depths-is)
            | else-not-reaches_itself-node w ↦
                subst (λ v. Deepens c.args.graph.now c.args.order.now c.args.reaches_itself.now v.items (c.loop-node.node-index + 1)) (sym w.depths-is)
                (deepens_cycle c.args.graph.now c.args.order.now c.args.reaches_itself.now c.loop-node.depths.items
                c.loop-node.node-index c.requires.order c.requires.flags c.loop-node-test.true c.loop-node.invariant.deepens w.if-not-reaches_itself-node.false)
          ];
      steps =
          elim c.if-not-reaches_itself-node.branch [
            | then-not-reaches_itself-node w ↦
                omega (arith, more, w.steps-is, w.depth_of.ensures.steps, c.tick.ensures, c.loop-node.invariant.steps)
            | else-not-reaches_itself-node w ↦ omega (arith, more, w.steps-is, c.tick.ensures, c.loop-node.invariant.steps)
          ];
    }

pub returns-clause-depths : goal.returns-clause-depths
returns-clause-depths g c =
    deepens_all c.args.graph.now c.args.order.now c.args.reaches_itself.now c.loop-node.depths.items c.loop-node.node-index
    c.requires.order c.loop-node-test.false c.loop-node.invariant.deepens

pub returns-clause-steps : goal.returns-clause-steps
returns-clause-steps g c =
    let whole : take c.loop-node.node-index c.args.order.now ≡ c.args.order.now =
    take_all c.loop-node.node-index c.args.order.now c.loop-node-test.false in
    omega (
      arith,
      c.loop-node.invariant.steps,
      ap (λ xs. sum_by (λ (a : ℕ). length (successors c.args.graph.now a) + 1) xs) whole,
      order_sum c.args.graph.now c.args.order.now c.requires.order,
    )
