use Rattle.std.proofs.Common.{arith, ap, length, ℕ, List, []}
use Rattle.std.proofs.lemmas.List.{length_push}
use Rattle.std.proofs.lemmas.List.Sums.{sum_by_more}
use Rattle.definition_graph.proofs.Flagging.{flags_more}
use Rattle.definition_graph.proofs.cycles.cycle_flags.Goals as goal

pub loop-node-preserved : goal.loop-node-preserved
loop-node-preserved g c =
    record {
      steps =
          omega (
            arith,
            c.is_on_cycle.ensures.steps,
            c.tick.ensures,
            c.loop-node.invariant.steps,
            sum_by_more (λ (row : List ℕ). length row) c.args.graph.now c.loop-node.node [] (omega arith),
          );
      each = omega (arith, ap length c.in_ok-push.ensures.items, length_push c.loop-node.flags.items c.is_on_cycle.result, c.loop-node.invariant.each);
      right =
          flags_more c.args.graph.now c.loop-node.flags.items _ c.loop-node.node c.is_on_cycle.result c.in_ok-push.ensures.items
          c.loop-node.invariant.each c.is_on_cycle.ensures.cycle c.loop-node.invariant.right;
    }
