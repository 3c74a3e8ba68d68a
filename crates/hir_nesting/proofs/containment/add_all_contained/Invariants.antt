use Rattle.std.proofs.Common.{◌≡◌, ◌++◌, ◌∷◌, [], List, ℕ, length, take}
use Rattle.hir_nesting.specs.Structs.{struct_numbers}
use Rattle.hir_nesting.proofs.containment.add_all_contained.Given as goal

abbrev pub invariant-loop-id : goal.invariant-loop-id
invariant-loop-id l =
    (length l.graph ≡ length l.fn.graph)
    × ((before after : List (List ℕ)) → l.fn.graph ≡ before ++ [] ∷ after → length before ≡ l.from
    → l.graph ≡ before ++ struct_numbers l.counts.out_structs l.counts.structs (take l.id-index l.ids) ∷ after)
