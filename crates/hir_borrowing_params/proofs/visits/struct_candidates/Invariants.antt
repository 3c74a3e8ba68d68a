use Rattle.std.proofs.Common.{◌≡◌, ◌≤◌, length, map, take, vec_capacity}
use Rattle.std.specs.List.{enumerate_from}
use Rattle.hir_borrowing_params.specs.inside.Candidates.{candidate_shown, struct_candidate}
use Rattle.hir_borrowing_params.proofs.visits.struct_candidates.Given as goal

abbrev pub invariant-loop-number : goal.invariant-loop-number
invariant-loop-number l = record {
  shown : map candidate_shown l.list.items ≡ map (struct_candidate l.env l.optional) (enumerate_from 0 (take l.number l.args));
  many : length l.list.items ≡ l.number;
  room : length l.args ≤ vec_capacity l.list;
}
