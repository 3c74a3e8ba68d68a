-- A graph whose rows are filled one after another.
use Rattle.std.proofs.Common.{◌≡◌, arith, ◌<◌, ◌+◌, ℕ, List, [], ◌∷◌, ◌++◌, length, get_or, take, nat_lt, Bool, true, false, Some, None, Ok, Err, Result, refl, ap, subst, sym, ◌∙◌}
use Rattle.std.specs.Prelude.{IfSome, OnOk, slice_set, if◌then◌else◌}
use Rattle.std.proofs.lemmas.Bool.{ltb-true}
use Rattle.std.proofs.lemmas.List.{take_more}
use Rattle.std.proofs.lemmas.List.Elements.{filter_map-append}
use Rattle.std.proofs.Math.Seq.{set-append_seam}
use Rattle.definition_graph.specs.Reaching.{successors}
use Rattle.hir_ids.specs.declared.ids.TypeId.{TypeId}
use Rattle.hir_ids.specs.declared.ids.TypeId.TheVariants as type
use Rattle.hir_nesting.specs.Structs.{struct_number, struct_numbers}

at_seam : (before : List (List ℕ)) (row : List ℕ) (after : List (List ℕ)) → successors (before ++ row ∷ after) (length before) ≡ row
at_seam [] row after = refl
at_seam (b ∷ before) row after = at_seam before row after

-- an edge more
pub row_more : (g before after : List (List ℕ)) (row : List ℕ) (from to : ℕ) → g ≡ before ++ row ∷ after → length before ≡ from
    → slice_set g from (successors g from ++ to ∷ []) ≡ before ++ (row ++ to ∷ []) ∷ after
row_more g before after row from to is at =
    ap (λ h. slice_set h from (successors h from ++ to ∷ [])) is
    ∙ ap (λ n. slice_set (before ++ row ∷ after) n (successors (before ++ row ∷ after) n ++ to ∷ [])) (sym at)
    ∙ ap (λ r. slice_set (before ++ row ∷ after) (length before) (r ++ to ∷ [])) (at_seam before row after)
    ∙ set-append_seam before row after (row ++ to ∷ [])

below_if : (b : Bool) (n m t : ℕ) → (b ≡ true → n < t) → (if b then Some n else None) ≡ Some m → m < t
below_if true n m t below h = subst (λ o. IfSome o (λ k. k < t)) h (below refl)
below_if false n m t below h = absurd cc

-- a number is that of one of so many
pub number_within : (outs others : ℕ) (id : TypeId) (n : ℕ) → struct_number outs others id ≡ Some n → n < outs + others
number_within outs others (type.OutStruct place) n h = below_if (nat_lt place outs) place n (outs + others) (λ e. let l = ltb-true place outs e in omega (arith, l)) h
number_within outs others (type.Struct place) n h = below_if (nat_lt place others) (outs + place) n (outs + others) (λ e. let l = ltb-true place others e in omega (arith, l)) h
number_within outs others (type.Opaque place) n h = absurd cc
number_within outs others (type.Enum place) n h = absurd cc

-- the numbers of the ids before the next, and its own
pub numbers_more : (outs others : ℕ) (ids : List TypeId) (i : ℕ) (id : TypeId) → i < length ids → id ≡ get_or ids i id
    → struct_numbers outs others (take i ids) ++ struct_numbers outs others (id ∷ []) ≡ struct_numbers outs others (take (i + 1) ids)
numbers_more outs others ids i id within is =
    sym (filter_map-append (struct_number outs others) (take i ids) (id ∷ []))
    ∙ ap (λ x. struct_numbers outs others (take i ids ++ x ∷ [])) is
    ∙ ap (λ xs. struct_numbers outs others xs) (sym (take_more ids i id within))

pub on_ok_so : {A E : Type 0} {P Q : Type 0} (r : Result A E) → OnOk r P → (P → Q) → OnOk r Q
on_ok_so (Ok x) h k = k h
on_ok_so (Err e) h k = tt
