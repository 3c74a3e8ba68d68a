-- Sums that are cut at a limit.
use Rattle.std.proofs.Common.{◌≡◌, ◌⊎◌, inl, inr, ℕ, zero, suc, ◌+◌, ◌<◌, ◌≤◌, List, length, take, get_or, sym, ap, ◌∙◌, arith}
use Rattle.std.specs.Prelude.{min, sum_by}
use Rattle.std.proofs.Math.Nat.{min-eq_left, min-eq_right}
use Rattle.std.proofs.lemmas.List.Sums.{sum_by_more}

le_or : (n m : ℕ) → (n ≤ m) ⊎ (m ≤ n)
le_or zero m = inl (omega (arith))
le_or (suc n) zero = inr (omega (arith))
le_or (suc n) (suc m) = elim (le_or n m) [
  | inl small ↦ inl (omega (arith, small))
  | inr big ↦ inr (omega (arith, big))
]

pub cut_first : (l a b : ℕ) → min l (min l a + b) ≡ min l (a + b)
cut_first l a b = elim (le_or l a) [
  | inl big ↦
      let cut : min l a ≡ l = min-eq_left big in
      let more : l ≤ l + b = omega (arith) in
      let most : l ≤ a + b = omega (arith, big) in
      ap (λ n. min l (n + b)) cut ∙ min-eq_left more ∙ sym (min-eq_left most)
  | inr small ↦ ap (λ n. min l (n + b)) (min-eq_right small)
]

pub cut_both : (l a b : ℕ) → min l (min l a + min l b) ≡ min l (a + b)
cut_both l a b =
    let turned : a + min l b ≡ min l b + a = omega (arith) in
    let back : b + a ≡ a + b = omega (arith) in
    cut_first l a (min l b) ∙ ap (min l) turned ∙ cut_first l b a ∙ ap (min l) back

-- one more that a loop reads
pub sum_to : {X : Type 0} (f : X → ℕ) (xs : List X) (i : ℕ) (x : X) → i < length xs → x ≡ get_or xs i x
    → sum_by f (take i xs) + f x ≡ sum_by f (take (i + 1) xs)
sum_to f xs i x within is = ap (λ y. sum_by f (take i xs) + f y) is ∙ sym (sum_by_more f xs i x within)
