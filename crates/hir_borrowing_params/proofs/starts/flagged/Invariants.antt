use Rattle.std.proofs.Common.{◌≡◌, ℕ, take}
use Rattle.hir_borrowing_params.specs.Edges.{is_in}
use Rattle.hir_borrowing_params.specs.inside.Starting.{flag_at}
use Rattle.hir_borrowing_params.proofs.starts.flagged.Given as goal

abbrev pub invariant-loop-number : goal.invariant-loop-number
invariant-loop-number l = (m : ℕ) → is_in l.set m ≡ flag_at (take l.number l.flags) m
