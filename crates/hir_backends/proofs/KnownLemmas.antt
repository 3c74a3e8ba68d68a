-- What halving finds in a sorted copy.
use Rattle.std.proofs.Common.{◌≡◌, ℕ, ◌+◌, ◌<◌, ◌≤◌, Bool, true, false, ◌&&◌, ◌||◌, List, [], ◌∷◌, length, get_or, Result, Ok, Err, refl, sym, ap, ◌∙◌, arith, subst, true≢false, ⊎_elim}
use Rattle.std.proofs.lemmas.Bool.{cases_lt}
use Rattle.std.specs.Prelude.{is_ok}
use Rattle.std.specs.List.{list_any, All}
use Rattle.std.specs.List.Sorted.{IsSearchInRange, IsBinarySearchResult, IsNonDecreasingBy, IsPermutation, IsSorted}
use Rattle.std.specs.Cmp.{IsTotalOrder, then_total, on_total}
use Rattle.std.specs.Cmp.Lexicographic.{slice_cmp, nat_list_cmp_total}
use Rattle.std.specs.Str.{bytes_eq}
use Rattle.std.proofs.lemmas.Map.Text.{is_eq-slice_cmp}
use Rattle.std.specs.declared.cmp.Ordering.{Ordering}
use Rattle.std.specs.declared.cmp.Ordering.TheVariants.{Less, Equal, Greater}
use Rattle.std.specs.Ordering.{nat_cmp, ordering_index, ordering_reverse, ordering_then, is_eq, is_lt}
use Rattle.std.proofs.lemmas.List.Sorted.{IsNonDecreasingBy-from_all_adjacent, list_any-IsPermutation}
use Rattle.std.proofs.lemmas.List.Folds.{list_any_at, list_any_none}
use Rattle.hir_backends.specs.Known.{is_named, is_paired}
use Rattle.hir_backends.specs.inside.Sorted.{IsSortedCopy, texts_cmp}

-- tests that agree on each element agree on a list
list_any_alike : {T : Type 0} (p q : T → Bool) → ((x : T) → p x ≡ q x) → (xs : List T) → list_any p xs ≡ list_any q xs
list_any_alike p q same [] = refl
list_any_alike p q same (x ∷ xs) = ap (λ b. b || list_any p xs) (same x) ∙ ap (λ b. q x || b) (list_any_alike p q same xs)

module _ {T : Type 0} (cmp : T → T → Ordering) (total : IsTotalOrder cmp) where
  no_less : {P : Type 0} (b a : T) (z : Ordering) → cmp b a ≡ z → is_lt z ≡ false → cmp b a ≡ Less → P
  no_less b a z s up less = absurd (true≢false (ap is_lt (sym less ∙ s) ∙ up))

  -- what isn't below the one before it compares with a third no lower
  rises_by : (a b q : T) (x y z : Ordering) → cmp a q ≡ x → cmp b q ≡ y → cmp b a ≡ z → is_lt z ≡ false → ordering_index x ≤ ordering_index y
  rises_by a b q Less y z p r s up = omega arith
  rises_by a b q Equal Less z p r s up =
      no_less b a z s up (total.antisymm b a ∙ ap ordering_reverse (total.congr a q b p ∙ total.antisymm q b ∙ ap ordering_reverse r))
  rises_by a b q Equal Equal z p r s up = omega arith
  rises_by a b q Equal Greater z p r s up = omega arith
  rises_by a b q Greater Less z p r s up = no_less b a z s up (total.trans b q a r (total.antisymm q a ∙ ap ordering_reverse p))
  rises_by a b q Greater Equal z p r s up = no_less b a z s up (total.congr b q a r ∙ total.antisymm q a ∙ ap ordering_reverse p)
  rises_by a b q Greater Greater z p r s up = omega arith

  rises : (a b q : T) → is_lt (cmp b a) ≡ false → ordering_index (cmp a q) ≤ ordering_index (cmp b q)
  rises a b q up = rises_by a b q (cmp a q) (cmp b q) (cmp b a) refl refl refl up

  ranks_rise : (q : T) (sorted : List T) → IsSorted cmp sorted → IsNonDecreasingBy (λ y. ordering_index (cmp y q)) sorted
  ranks_rise q sorted up = IsNonDecreasingBy-from_all_adjacent (λ y. ordering_index (cmp y q)) sorted (λ k d within. rises (get_or sorted k d) (get_or sorted (k + 1) d) q (up k d (omega arith) within))

  -- a search ends at an element that is equal exactly where there is one
  found : (q : T) (sorted : List T) (r : Result ℕ ℕ) → IsSorted cmp sorted → IsSearchInRange r (length sorted)
      → IsBinarySearchResult (λ y. cmp y q) sorted r → is_ok r ≡ list_any (λ y. is_eq (cmp y q)) sorted
  found q sorted (Ok at) up within equal = sym (list_any_at (λ y. is_eq (cmp y q)) sorted at q within (ap is_eq (equal q)))
  found q sorted (Err at) up within parted =
      let parts = parted (ranks_rise q sorted up) in
      sym (list_any_none (λ y. is_eq (cmp y q)) sorted (λ k d below.
      ⊎_elim (λ (before : k < at). ap is_eq (parts.0 k d (omega arith) before)) (λ (after : at ≤ k). ap is_eq (parts.1 k d after below)) (cases_lt k at)))

  pub found_by_halving : (q : T) (items sorted : List T) (r : Result ℕ ℕ) → IsSortedCopy cmp items sorted → IsSearchInRange r (length sorted)
      → IsBinarySearchResult (λ y. cmp y q) sorted r → is_ok r ≡ list_any (λ y. is_eq (cmp y q)) items
  found_by_halving q items sorted r copy within searched =
      found q sorted r copy.rising within searched ∙ sym (list_any-IsPermutation (λ y. is_eq (cmp y q)) items sorted copy.same)

-- the same of names and of pairs, by the tests of their bytes
pub name_found : (name : List ℕ) (items sorted : List (List ℕ)) (r : Result ℕ ℕ) → IsSortedCopy (slice_cmp nat_cmp) items sorted
    → IsSearchInRange r (length sorted) → IsBinarySearchResult (λ y. slice_cmp nat_cmp y name) sorted r → is_ok r ≡ is_named items name
name_found name items sorted r copy within searched =
    found_by_halving (slice_cmp nat_cmp) nat_list_cmp_total name items sorted r copy within searched
    ∙ list_any_alike (λ y. is_eq (slice_cmp nat_cmp y name)) (λ y. bytes_eq y name) (λ y. is_eq-slice_cmp y name) items

pair_total : IsTotalOrder texts_cmp
pair_total = then_total (on_total (λ pair. pair.0) nat_list_cmp_total) (on_total (λ pair. pair.1) nat_list_cmp_total)

both_equal : (first second : Ordering) → is_eq (ordering_then first second) ≡ (is_eq first && is_eq second)
both_equal Less second = refl
both_equal Equal second = refl
both_equal Greater second = refl

pub pair_found : (name value : List ℕ) (items sorted : List (List ℕ × List ℕ)) (r : Result ℕ ℕ) → IsSortedCopy texts_cmp items sorted
    → IsSearchInRange r (length sorted) → IsBinarySearchResult (λ y. texts_cmp y (name, value)) sorted r → is_ok r ≡ is_paired items name value
pair_found name value items sorted r copy within searched =
    found_by_halving texts_cmp pair_total (name, value) items sorted r copy within searched
    ∙ list_any_alike (λ y. is_eq (texts_cmp y (name, value))) (λ y. bytes_eq y.0 name && bytes_eq y.1 value)
    (λ y. both_equal (slice_cmp nat_cmp y.0 name) (slice_cmp nat_cmp y.1 value) ∙ ap (λ b. b && is_eq (slice_cmp nat_cmp y.1 value)) (is_eq-slice_cmp y.0 name) ∙ ap (λ b. bytes_eq y.0 name && b) (is_eq-slice_cmp y.1 value))
    items
