use Rattle.std.proofs.Common.{◌≡◌, ◌&&◌, ℕ, take, nat_eq}
use Rattle.std.specs.List.{list_any}
use Rattle.hir_borrowing_params.specs.Edges.{is_in}
use Rattle.hir_borrowing_params.specs.inside.Candidates.{passes_under}
use Rattle.hir_borrowing_params.proofs.answers.keys_under.Given as goal

abbrev pub invariant-loop-key : goal.invariant-loop-key
invariant-loop-key l = (t : ℕ) → is_in l.set t ≡ list_any (λ k. nat_eq k t && passes_under l.map k l.candidate) (take l.key-index l.keys)
