-- Lists of numbers that ascend.
use Rattle.std.proofs.Common.{◌≡◌, ℕ, ◌<◌, ◌≤◌, ◌↔◌, inl, inr, Bool, true, false, IsTrue, Some, Result, Ok, Err, is_ok, List, length, get_or, sym, ◌∙◌, subst, arith}
use Rattle.std.specs.List.{Contains, IsAllAdjacentAnswer}
use Rattle.std.specs.List.Sorted.{IsBinarySearchResult, IsNonDecreasing}
use Rattle.std.specs.Ordering.{is_le, is_some_and, nat_cmp}
use Rattle.std.proofs.lemmas.Bool.{cases_lt, false≢true}
use Rattle.std.proofs.lemmas.Grind.{get_or_default_zero}
use Rattle.std.proofs.lemmas.List.Elements.{Contains-get_or}
use Rattle.std.proofs.lemmas.List.Sorted.{non_decreasing_from_is_sorted, searched}

-- a list that is sorted ascends
pub ascends_where_sorted :
    (xs : List ℕ) (r : Bool) → IsAllAdjacentAnswer (λ x y b. is_some_and is_le (Some (nat_cmp x y)) ≡ b) xs r → IsTrue r
    → IsNonDecreasing xs
ascends_where_sorted xs true is so = non_decreasing_from_is_sorted xs true is
ascends_where_sorted xs false is so = absurd (false≢true so)

-- what is below x before a place, and above it from there on, isn't x
not_there :
    (xs : List ℕ) (x i : ℕ) → ((k : ℕ) → k < i → get_or xs k 0 < x)
    → ((k : ℕ) → i ≤ k → k < length xs → x < get_or xs k 0) → Contains xs x → ⊥
not_there xs x i below above h =
    let here : get_or xs h.0 0 ≡ x = sym (get_or_default_zero xs h.0 x h.1) ∙ h.2 in
    elim (cases_lt h.0 i) [
      | inl front ↦ omega (arith, below h.0 front, here)
      | inr back ↦ omega (arith, above h.0 back h.1, here)
    ]

-- a search by halves finds a number exactly where it stands in the list
pub found_by_halves :
    (xs : List ℕ) (x : ℕ) (r : Result ℕ ℕ) (b : Bool) → b ≡ is_ok r → IsBinarySearchResult (λ y. nat_cmp y x) xs r
    → IsNonDecreasing xs → (IsTrue b ↔ Contains xs x)
found_by_halves xs x (Ok i) b answer is ascends =
    let here = searched xs x (Ok i) is (λ k j le within. ascends k j 0 le within) in
    (λ _. subst (λ y. Contains xs y) here.1 (Contains-get_or xs i 0 here.0), λ _. answer)
found_by_halves xs x (Err i) b answer is ascends =
    let none = searched xs x (Err i) is (λ k j le within. ascends k j 0 le within) in
    (λ so. absurd (false≢true (sym answer ∙ so)), λ h. absurd (not_there xs x i none.1 none.2 h))
