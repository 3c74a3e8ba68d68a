-- Whether a place has its code already, as a test and as a fact.
use Rattle.std.proofs.Common.{◌≡◌, inl, inr, List, [], ◌∷◌, Bool, true, false, ◌||◌, Some, refl, sym, ap, ◌∙◌, subst}
use Rattle.std.specs.List.{Contains, list_any}
use Rattle.std.proofs.lemmas.Slice.Eq.{bytes_eq-Decides}
use Rattle.bridge_telling.proofs.ExactLemmas.{in_cases, in_first, in_none, in_rest}
use Rattle.hir_attrs.specs.Includes.{is_location_called, location_named, location_word}
use Rattle.hir_attrs.specs.Reading.{has_location}
use Rattle.hir_attrs.specs.declared.includes.IncludeLocation.{IncludeLocation}
use Rattle.hir_attrs.specs.declared.includes.IncludeSource.{IncludeSource}
use Rattle.hir_mark_rules.proofs.NameLemmas.{named_location}

any_first : {X : Type 0} (p : X → Bool) (x : X) (xs : List X) (b : Bool) → p x ≡ b → (list_any p xs ≡ true → (y : X) × (Contains xs y × (p y ≡ true))) → (b || list_any p xs) ≡ true → (y : X) × (Contains (x ∷ xs) y × (p y ≡ true))
any_first p x xs true is more h = (x, (in_first x xs, is))
any_first p x xs false is more h = let found = more h in (found.0, (in_rest x xs found.0 found.1.0, found.1.1))

any_found : {X : Type 0} (p : X → Bool) (xs : List X) → list_any p xs ≡ true → (x : X) × (Contains xs x × (p x ≡ true))
any_found p [] h = cc
any_found p (x ∷ xs) h = any_first p x xs (p x) refl (any_found p xs) h

or_true : (b : Bool) → (b || true) ≡ true
or_true true = refl
or_true false = refl

found_any : {X : Type 0} (p : X → Bool) (xs : List X) (x : X) → Contains xs x → p x ≡ true → list_any p xs ≡ true
found_any p [] x in' passes = absurd (in_none x in')
found_any p (y ∷ ys) x in' passes = elim (in_cases y ys x in') [
  | inl is ↦ ap (λ b. b || list_any p ys) (ap p (sym is) ∙ passes)
  | inr more ↦ ap (λ b. p y || b) (found_any p ys x more passes) ∙ or_true (p y)
]

-- a location is known by its name
same_word : (a b : IncludeLocation) → location_word a ≡ location_word b → a ≡ b
same_word a b h = let both : Some a ≡ Some b = sym (named_location a) ∙ ap location_named h ∙ named_location b in cc

pub place_taken : (it : IncludeLocation) (includes : List (IncludeLocation × IncludeSource)) → has_location it includes ≡ true → (code : IncludeSource) × Contains includes (it, code)
place_taken it includes h =
    let found = any_found (λ (include : IncludeLocation × IncludeSource). is_location_called (location_word it) include.0) includes h in
    let is : found.0.0 ≡ it = same_word found.0.0 it ((bytes_eq-Decides (location_word found.0.0) (location_word it)).0 found.1.1) in
    (found.0.1, subst (λ (l : IncludeLocation). Contains includes (l, found.0.1)) is found.1.0)

pub taken_place : (it : IncludeLocation) (includes : List (IncludeLocation × IncludeSource)) (code : IncludeSource) → Contains includes (it, code) → has_location it includes ≡ true
taken_place it includes code in' = found_any (λ (include : IncludeLocation × IncludeSource). is_location_called (location_word it) include.0) includes (it, code) in' ((bytes_eq-Decides (location_word it) (location_word it)).1 refl)
