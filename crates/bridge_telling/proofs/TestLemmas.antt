-- Tests that are made of tests.
use Rattle.std.proofs.Common.{◌≡◌, ◌⊎◌, inl, inr, List, [], ◌∷◌, Bool, true, false, refl, sym, ap, ◌∙◌}
use Rattle.std.specs.Prelude.{◌&&◌, ◌||◌, not}
use Rattle.std.specs.List.{Contains, list_any}
use Rattle.bridge_telling.proofs.ExactLemmas.{in_cases, in_first, in_none, in_rest}

pub false_of_not : (b : Bool) → not b ≡ true → b ≡ false
false_of_not true h = cc
false_of_not false h = refl

pub not_of_false : (b : Bool) → b ≡ false → not b ≡ true
not_of_false true h = cc
not_of_false false h = refl

pub and_parts : (a b : Bool) → a && b ≡ true → (a ≡ true) × (b ≡ true)
and_parts true true h = (refl, refl)
and_parts true false h = cc
and_parts false b h = cc

pub parts_and : (a b : Bool) → a ≡ true → b ≡ true → a && b ≡ true
parts_and true true h i = refl
parts_and true false h i = cc
parts_and false b h i = cc

pub or_cases : (a b : Bool) → a || b ≡ true → (a ≡ true) ⊎ (b ≡ true)
or_cases true b h = inl refl
or_cases false b h = inr h

pub or_first : (a b : Bool) → a ≡ true → a || b ≡ true
or_first true b h = refl
or_first false b h = cc

pub or_second : (a b : Bool) → b ≡ true → a || b ≡ true
or_second true b h = refl
or_second false b h = h

-- of a list of which one passes, that one; and back
pub some_passes : {A : Type 0} (test : A → Bool) (xs : List A) → list_any test xs ≡ true → (x : A) × (Contains xs x × (test x ≡ true))
some_passes test [] h = cc
some_passes test (x ∷ xs) h = elim (or_cases (test x) (list_any test xs) h) [
  | inl here ↦ (x, (in_first x xs, here))
  | inr later ↦ let more = some_passes test xs later in (more.0, (in_rest x xs more.0 more.1.0, more.1.1))
]

pub passes_some : {A : Type 0} (test : A → Bool) (xs : List A) (x : A) → Contains xs x → test x ≡ true → list_any test xs ≡ true
passes_some test [] x c h = absurd (in_none x c)
passes_some test (y ∷ ys) x c h = elim (in_cases y ys x c) [
  | inl is ↦ or_first (test y) (list_any test ys) (ap test (sym is) ∙ h)
  | inr later ↦ or_second (test y) (list_any test ys) (passes_some test ys x later h)
]
