-- A list of definitions with their places, before other entries: what stands where.
use Rattle.std.proofs.Common.{◌≡◌, ℕ, ◌+◌, List, [], ◌∷◌, ◌++◌, length, map, slice_get, Option, Some, None, suc, zero, refl, ap, arith, inl, inr, ◌⊎◌, option_map}
use Rattle.std.specs.List.{enumerate_from}

further : (i n j : ℕ) → i ≡ n + j → suc i ≡ suc n + j
further i n j same = omega arith

-- what was made of something is there only where that is
pub made_of : {A B : Type 0} (f : A → B) (o : Option A) (y : B) → option_map f o ≡ Some y → (x : A) × (o ≡ Some x) × (f x ≡ y)
made_of f None y h = absurd cc
made_of f (Some x) y h = (x, refl, cc)

module _ {X Y : Type 0} (f : ℕ × X → Y) where
  -- an entry is that of a definition at its place, or one of the others
  pub listed_at : (n : ℕ) (xs : List X) (rest : List Y) (i : ℕ) (y : Y) → slice_get (map f (enumerate_from n xs) ++ rest) i ≡ Some y
      → ((x : X) × (slice_get xs i ≡ Some x) × ((e : ℕ) → n + i ≡ e → y ≡ f (e, x))) ⊎ ((j : ℕ) × (i ≡ length xs + j) × (slice_get rest j ≡ Some y))
  listed_at n [] rest i y at = let same : i ≡ 0 + i = omega arith in inr (i, same, at)
  listed_at n (x ∷ xs) rest zero y at = inl (x, refl, (λ e same. let here : n ≡ e = omega arith in cc))
  listed_at n (x ∷ xs) rest (suc i) y at = elim (listed_at (n + 1) xs rest i y at) [
    | inl w ↦ inl (w.0, w.1, (λ e same. w.2 e (omega arith)))
    | inr w ↦ inr (w.0, further i (length xs) w.0 w.1, w.2)
  ]

  -- that of a definition stands at its place
  pub at_place : (n : ℕ) (xs : List X) (rest : List Y) (i e : ℕ) (x : X) → n + i ≡ e → slice_get xs i ≡ Some x → slice_get (map f (enumerate_from n xs) ++ rest) i ≡ Some (f (e, x))
  at_place n [] rest i e x same at = absurd cc
  at_place n (y ∷ xs) rest zero e x same at = let here : n ≡ e = omega arith in cc
  at_place n (y ∷ xs) rest (suc i) e x same at = at_place (n + 1) xs rest i e x (omega arith) at

  -- and the others come after them
  pub at_rest : (n : ℕ) (xs : List X) (rest : List Y) (k j : ℕ) → k ≡ length xs + j → slice_get (map f (enumerate_from n xs) ++ rest) k ≡ slice_get rest j
  at_rest n [] rest k j same = let here : k ≡ j = omega arith in ap (slice_get rest) here
  at_rest n (x ∷ xs) rest zero j same = let never : ⊥ = omega arith in absurd never
  at_rest n (x ∷ xs) rest (suc k) j same = at_rest (n + 1) xs rest k j (omega arith)

  -- the same where no others come
  pub listed_alone : (n : ℕ) (xs : List X) (i : ℕ) (y : Y) → slice_get (map f (enumerate_from n xs)) i ≡ Some y
      → (x : X) × (slice_get xs i ≡ Some x) × ((e : ℕ) → n + i ≡ e → y ≡ f (e, x))
  listed_alone n [] i y at = absurd cc
  listed_alone n (x ∷ xs) zero y at = (x, refl, (λ e same. let here : n ≡ e = omega arith in cc))
  listed_alone n (x ∷ xs) (suc i) y at = let w = listed_alone (n + 1) xs i y at in (w.0, w.1, (λ e same. w.2 e (omega arith)))

  pub at_place_alone : (n : ℕ) (xs : List X) (i e : ℕ) (x : X) → n + i ≡ e → slice_get xs i ≡ Some x → slice_get (map f (enumerate_from n xs)) i ≡ Some (f (e, x))
  at_place_alone n [] i e x same at = absurd cc
  at_place_alone n (y ∷ xs) zero e x same at = let here : n ≡ e = omega arith in cc
  at_place_alone n (y ∷ xs) (suc i) e x same at = at_place_alone (n + 1) xs i e x (omega arith) at
