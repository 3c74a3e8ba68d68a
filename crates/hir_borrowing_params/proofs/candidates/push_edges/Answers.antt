use Rattle.std.proofs.Common.{arith}
use Rattle.hir_borrowing_params.proofs.Rooms.{with_next}
use Rattle.hir_borrowing_params.proofs.candidates.push_edges.Goals as goal

pub loop-candidate-preserved : goal.loop-candidate-preserved
loop-candidate-preserved c = record {
  edges = with_next _ _ _ _ _ _ _ c.loop-candidate-test.true c.candidate-item.is c.loop-candidate.invariant.edges c.push_edge.ensures.edges;
  room = omega (arith, c.push_edge.ensures.room, c.loop-candidate.invariant.room);
  capacity = cc (c.push_edge.ensures.capacity, c.loop-candidate.invariant.capacity);
}
