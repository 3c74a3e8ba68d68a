-- Lists that are empty.
use Rattle.std.proofs.Common.{◌≡◌, Bool, true, false, List, [], ◌∷◌, ◌++◌, refl, ap, ◌∙◌}
use Rattle.std.specs.Prelude.{if◌then◌else◌}
use Rattle.std.specs.List.{flat_map}

module _ {A : Type 0} where
  pub both_empty : (xs ys : List A) → xs ≡ [] → ys ≡ [] → xs ++ ys ≡ []
  both_empty xs ys first second = ap (λ zs. zs ++ ys) first ∙ second

  abbrev none : List A
  none = []

  none_anyway : (b : Bool) → (if b then none else none) ≡ none
  none_anyway true = refl
  none_anyway false = refl

  -- what is left out or is empty
  pub unless_empty : (b : Bool) (xs : List A) → xs ≡ [] → (if b then [] else xs) ≡ []
  unless_empty b xs is = ap (λ ys. if b then [] else ys) is ∙ none_anyway b

pub each_empty : {X A : Type 0} (f : X → List A) → ((x : X) → f x ≡ []) → (xs : List X) → flat_map f xs ≡ []
each_empty f is [] = refl
each_empty f is (x ∷ xs) = both_empty (f x) (flat_map f xs) (is x) (each_empty f is xs)
