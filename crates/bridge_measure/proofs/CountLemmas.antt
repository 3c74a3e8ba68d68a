-- Numbers by eights, and short lists.
use Rattle.std.proofs.Common.{◌≡◌, ℕ, zero, suc, ◌+◌, ◌-◌, ◌%◌, ◌<◌, Bool, true, false, [], ◌∷◌, length, refl, sym, subst, arith, if◌then◌else◌}
use Rattle.std.specs.Prelude.{slice_index_or, ◌==◌}
use Rattle.std.specs.List.{All, Contains, range_with_len}
use Rattle.std.proofs.lemmas.Bool.Decides.{nat_tests}
use Rattle.std.proofs.lemmas.List.FromFn.{get_or-range_with_len, length-range_with_len}

-- ---- numbers

-- one before a number that isn't the first of its eight
pub before_in_eight : (k : ℕ) → 0 < k % 8 → (k - 1) % 8 + 1 ≡ k % 8
before_in_eight k later = omega arith

pub below_eight : (k : ℕ) → k % 8 < 8
below_eight k = omega arith

pub isnt_first : (n : ℕ) → (n == 0) ≡ false → 0 < n
isnt_first n h = grind (arith, nat_tests)

-- ---- lists

pub none_in : {A : Type 0} (x : A) → ¬ Contains [] x
none_in x h = absurd (omega (arith, h.1))

pub one_in : {A : Type 0} (x y : A) → Contains (x ∷ []) y → y ≡ x
one_in x y (zero, within, is) = sym is
one_in x y (suc i, within, is) = absurd (omega arith)

-- in a list that is there unless the test passes
pub in_rest : {A : Type 0} (b : Bool) (x y : A) (i : ℕ) → i < length (if b then [] else x ∷ []) → slice_index_or (if b then [] else x ∷ []) i y ≡ y
    → (b ≡ false) × (x ≡ y)
in_rest true x y i within is = absurd (omega arith)
in_rest false x y zero within is = (refl, is)
in_rest false x y (suc i) within is = absurd (omega arith)

-- what holds of each number below another
pub all_below : (count : ℕ) (P : ℕ → Type 0) → ((k : ℕ) → k < count → P k) → All P (range_with_len 0 count)
all_below count P holds i d within =
    let fits : i < count = omega (arith, length-range_with_len 0 count) in
    subst P (sym (get_or-range_with_len 0 count i d fits)) (holds (0 + i) (omega arith))
