-- Lists of numbers in which each stands once.
use Rattle.std.proofs.Common.{◌≡◌, ℕ, ◌+◌, ◌<◌, ◌≤◌, zero, suc, inl, inr, List, [], ◌∷◌, ◌++◌, length, get_or, take, drop, refl, sym, ◌∙◌, ap, subst, arith, length-append}
use Rattle.std.specs.List.{Contains, range_with_len}
use Rattle.std.proofs.lemmas.List.{take-append-drop}
use Rattle.std.proofs.lemmas.List.FromFn.{length-range_with_len, get_or-range_with_len}
use Rattle.std.proofs.lemmas.List.Elements.{Contains-append_left, Contains-append_right, Contains-append_cases}
use Rattle.std.proofs.lemmas.Grind.{get_or_default_zero}
use Rattle.std.proofs.Math.Seq.{drop-cons}
use Rattle.hir_life.specs.Listing.{IsOnceEach}

-- the first element is x, or it is further on
contains_cons : (x : ℕ) (xs : List ℕ) (k : ℕ) → (x ≡ k → ⊥) → Contains (x ∷ xs) k → Contains xs k
contains_cons x xs k other (zero, within, is) = absurd (other is)
contains_cons x xs k other (suc j, within, is) = (j, omega (arith, within), is)

-- the list before and after the place i
around : (ys : List ℕ) (i : ℕ) → i < length ys → ys ≡ take i ys ++ get_or ys i 0 ∷ drop (suc i) ys
around ys i within = sym (take-append-drop i ys) ∙ ap (λ r. take i ys ++ r) (drop-cons ys i 0 within)

-- what else is in a list than the element at i
contains_around :
    (ys : List ℕ) (i k : ℕ) → i < length ys → (get_or ys i 0 ≡ k → ⊥) → Contains ys k
    → Contains (take i ys ++ drop (suc i) ys) k
contains_around ys i k within other h =
    elim (Contains-append_cases (take i ys) (get_or ys i 0 ∷ drop (suc i) ys) k (subst (λ r. Contains r k) (around ys i within) h)) [
      | inl before ↦ Contains-append_left (take i ys) (drop (suc i) ys) k before
      | inr after ↦
          Contains-append_right (take i ys) (drop (suc i) ys) k (contains_cons (get_or ys i 0) (drop (suc i) ys) k other after)
    ]

-- a list in which each number stands once, and is among those of a second list, isn't longer than it
pub distinct_fits :
    (xs ys : List ℕ) → IsOnceEach xs → ((k : ℕ) → Contains xs k → Contains ys k) → length xs ≤ length ys
distinct_fits [] ys once among = omega arith
distinct_fits (x ∷ xs) ys once among =
    let at : Contains ys x = among x (0, omega arith, refl) in
    let here : get_or ys at.0 0 ≡ x = sym (get_or_default_zero ys at.0 x at.1) ∙ at.2 in
    let rest : length xs ≤ length (take at.0 ys ++ drop (suc at.0) ys) =
    distinct_fits xs (take at.0 ys ++ drop (suc at.0) ys) (λ i j before within same. once (suc i) (suc j) (omega (arith, before)) (omega (arith, within)) same)
    (λ k h. contains_around ys at.0 k at.1
    (λ e. once 0 (suc h.0) (omega arith) (omega (arith, h.1)) (sym here ∙ e ∙ sym h.2 ∙ get_or_default_zero xs h.0 k h.1))
    (among k (suc h.0, omega (arith, h.1), h.2))) in
    omega (
      arith,
      rest,
      length-append (take at.0 ys) (drop (suc at.0) ys),
      length-append (take at.0 ys) (get_or ys at.0 0 ∷ drop (suc at.0) ys),
      ap length (around ys at.0 at.1),
    )

zero_more : (k : ℕ) → 0 + k ≡ k
zero_more k = omega arith

-- there are at most n numbers below n
pub distinct_below : (xs : List ℕ) (n : ℕ) → IsOnceEach xs → ((k : ℕ) → Contains xs k → k < n) → length xs ≤ n
distinct_below xs n once below =
    let fits =
    distinct_fits xs (range_with_len 0 n) once
    (λ k h. (k, omega (arith, below k h, length-range_with_len 0 n), get_or-range_with_len 0 n k k (below k h) ∙ zero_more k)) in
    omega (arith, fits, length-range_with_len 0 n)
