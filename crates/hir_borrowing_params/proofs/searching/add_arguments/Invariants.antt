use Rattle.std.proofs.Common.{◌≡◌, ◌||◌, ℕ}
use Rattle.std.specs.List.{list_any}
use Rattle.hir_skeleton.specs.Leaves.{through}
use Rattle.hir_borrowing_params.specs.Edges.{is_in}
use Rattle.hir_borrowing_params.specs.inside.Searching.{is_number}
use Rattle.hir_borrowing_params.proofs.searching.add_arguments.Given as goal

abbrev pub invariant-loop-lifetime : goal.invariant-loop-lifetime
invariant-loop-lifetime l =
    (d : ℕ) → (is_in l.set d || list_any (through (is_number d) l.args) l.lifetime-iterator) ≡ (is_in l.initial.set d || list_any (through (is_number d) l.args) l.own.keys)
