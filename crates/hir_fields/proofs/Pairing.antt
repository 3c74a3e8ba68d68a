-- Two lists of one length, gone through together from their first elements.
use Rattle.std.proofs.Common.{◌≡◌, ℕ, ◌<◌, List, [], ◌∷◌, length, suc, map, get_or, refl, sym, ap, ◌∙◌, arith}
use Rattle.std.specs.List.{zip}
use Rattle.std.proofs.lemmas.Slice.Zip.{get_or-zip}

module _ {A B : Type 0} where
  -- as long as each
  pub long : (xs : List A) (ys : List B) → length xs ≡ length ys → length (zip xs ys) ≡ length xs
  long [] ys same = refl
  long (x ∷ xs) [] same = absurd (omega arith)
  long (x ∷ xs) (y ∷ ys) same = ap (λ n. suc n) (long xs ys (omega arith))

  -- the pair at a place
  pub pair_at : (xs : List A) (ys : List B) (i : ℕ) (x : A) (y : B) → length xs ≡ length ys → i < length xs → x ≡ get_or xs i x → y ≡ get_or ys i y
      → (x, y) ≡ get_or (zip xs ys) i (x, y)
  pair_at xs ys i x y same within first second =
      (λ k. (first k, second k)) ∙ sym (get_or-zip xs ys i (x, y) within (omega arith))

  -- what is made of the second of each alone
  pub seconds : {C : Type 0} (make : B → C) (xs : List A) (ys : List B) → length xs ≡ length ys → map (λ pair. make pair.1) (zip xs ys) ≡ map make ys
  seconds make [] [] same = refl
  seconds make [] (y ∷ ys) same = absurd (omega arith)
  seconds make (x ∷ xs) [] same = absurd (omega arith)
  seconds make (x ∷ xs) (y ∷ ys) same = ap (λ zs. make y ∷ zs) (seconds make xs ys (omega arith))
