-- What some element of a list has.
use Rattle.std.proofs.Common.{◌≡◌, ◌⊎◌, inl, inr, ℕ, suc, ◌<◌, ◌+◌, List, [], ◌∷◌, ◌++◌, length, get_or, map, refl, subst, ◌∙◌, arith}
use Rattle.std.specs.List.{All, Any}
use Rattle.std.proofs.lemmas.List.{length-append, length-map, get_or_append_left, get_or-append-add, get_or-map, get_or_default}
use Rattle.std.proofs.lemmas.List.Elements.{All-nil, All-cons}

module _ {X : Type 0} (P : X → Type 0) where
  pub any_here : (x : X) (xs : List X) → P x → Any P (x ∷ xs)
  any_here x xs p = (0, x, omega arith, refl, p)

  pub any_there : (x : X) (xs : List X) → Any P xs → Any P (x ∷ xs)
  any_there x xs h = let lt = h.2 in (suc h.0, h.1, omega arith, h.3, h.4)

  pub any_front : (xs ys : List X) → Any P xs → Any P (xs ++ ys)
  any_front xs ys h =
      let long = length-append xs ys in
      let lt = h.2 in
      (h.0, h.1, omega arith, get_or_append_left xs ys h.1 h.0 lt ∙ h.3, h.4)

  pub any_back : (xs ys : List X) → Any P ys → Any P (xs ++ ys)
  any_back xs ys h =
      let long = length-append xs ys in
      let lt = h.2 in
      (length xs + h.0, h.1, omega arith, get_or-append-add xs ys h.0 h.1 ∙ h.3, h.4)

  pub any_at : (xs : List X) (i : ℕ) (d : X) → i < length xs → P (get_or xs i d) → Any P xs
  any_at xs i d lt p = (i, get_or xs i d, lt, get_or_default xs i (get_or xs i d) d lt, p)

-- what holds of what the element at a place becomes
pub any_mapped : {X Y : Type 0} (P : Y → Type 0) (f : X → Y) (xs : List X) (i : ℕ) (d : X) → i < length xs → P (f (get_or xs i d)) → Any P (map f xs)
any_mapped P f xs i d lt p =
    let long : length (map f xs) ≡ length xs = length-map xs f in
    (i, f (get_or xs i d), omega (arith, long), get_or-map f xs i d (f (get_or xs i d)) lt, p)

-- either all are as they should be, or some is not
module _ {X B : Type 0} (P : X → Type 0) (Q : X → B → Type 0) (decide : (x : X) → P x ⊎ ((b : B) × Q x b)) where
  later : (x : X) (xs : List X) → P x ⊎ ((b : B) × Q x b) → All P xs ⊎ ((b : B) × Any (λ y. Q y b) xs)
      → All P (x ∷ xs) ⊎ ((b : B) × Any (λ y. Q y b) (x ∷ xs))
  later x xs (inl p) (inl ps) = inl (All-cons P x xs p ps)
  later x xs (inl p) (inr q) = inr (q.0, any_there (λ y. Q y q.0) x xs q.1)
  later x xs (inr q) rest = inr (q.0, any_here (λ y. Q y q.0) x xs q.1)

  pub all_or_any : (xs : List X) → All P xs ⊎ ((b : B) × Any (λ x. Q x b) xs)
  all_or_any [] = inl (All-nil P)
  all_or_any (x ∷ xs) = later x xs (decide x) (all_or_any xs)

-- none is as it should not be where all are as they should
pub all_not_any : {X : Type 0} (P Q : X → Type 0) → ((x : X) → P x → ¬ Q x) → (xs : List X) → All P xs → ¬ Any Q xs
all_not_any P Q excludes xs all any =
    excludes any.1 (subst P any.3 (all any.0 any.1 any.2)) any.4
