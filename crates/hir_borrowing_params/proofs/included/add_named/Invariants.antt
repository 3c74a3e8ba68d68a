use Rattle.std.proofs.Common.{◌≡◌, ◌||◌, ◌&&◌, ℕ, length}
use Rattle.std.specs.Prelude.{nat_lt}
use Rattle.std.specs.List.{list_any}
use Rattle.hir_borrowing_params.specs.Edges.{is_in}
use Rattle.hir_borrowing_params.specs.inside.Searching.{is_number}
use Rattle.hir_borrowing_params.proofs.included.add_named.Given as goal

abbrev pub invariant-loop-lifetime : goal.invariant-loop-lifetime
invariant-loop-lifetime l =
    (t : ℕ) → (is_in l.keys t || list_any (λ k. is_number t k && nat_lt k (length l.env.bounds)) l.lifetime-iterator)
    ≡ (is_in l.initial.keys t || list_any (λ k. is_number t k && nat_lt k (length l.env.bounds)) l.set.keys)
