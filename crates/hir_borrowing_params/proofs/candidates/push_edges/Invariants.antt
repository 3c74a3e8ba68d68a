use Rattle.std.proofs.Common.{◌≡◌, ◌+◌, ◌≤◌, take, length, vec_capacity}
use Rattle.hir_borrowing_params.specs.Edges.{held_for}
use Rattle.hir_borrowing_params.specs.inside.Candidates.{with_edges}
use Rattle.hir_borrowing_params.proofs.candidates.push_edges.Given as goal

abbrev pub invariant-loop-candidate : goal.invariant-loop-candidate
invariant-loop-candidate l = record {
  edges : held_for l.info ≡ with_edges l.param_name (take l.candidate-index l.candidates) (held_for l.initial.info);
  room : length l.info.incoming_edges.items ≤ length l.initial.info.incoming_edges.items + l.candidate-index;
  capacity : vec_capacity l.info.incoming_edges ≡ vec_capacity l.initial.info.incoming_edges;
}
