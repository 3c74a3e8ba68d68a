-- Tests of lists, by their members.
use Rattle.std.proofs.Common.{◌≡◌, ◌⊎◌, inl, inr, Bool, true, false, true≢false, ◌||◌, ◌&&◌, List, [], ◌∷◌, refl, sym, subst}
use Rattle.std.specs.List.{All, Contains, list_any}
use Rattle.std.proofs.lemmas.List.Elements.{All-head, All-tail}
use Rattle.hir_skeleton.proofs.Members.{none_in_nothing, first_is_there, later_is_there, member_cases}

pub or_cases : (a b : Bool) → (a || b) ≡ true → (a ≡ true) ⊎ (b ≡ true)
or_cases true b h = inl refl
or_cases false b h = inr h

pub or_left : (a b : Bool) → a ≡ true → (a || b) ≡ true
or_left true b h = refl
or_left false b h = absurd (true≢false (sym h))

pub or_right : (a b : Bool) → b ≡ true → (a || b) ≡ true
or_right true b h = refl
or_right false b h = h

pub or_none : (a : Bool) → (a || false) ≡ a
or_none true = refl
or_none false = refl

pub or_assoc : (a b c : Bool) → ((a || b) || c) ≡ (a || (b || c))
or_assoc true b c = refl
or_assoc false b c = refl

pub and_first : (a b : Bool) → (a && b) ≡ true → a ≡ true
and_first true b h = refl
and_first false b h = h

pub and_second : (a b : Bool) → (a && b) ≡ true → b ≡ true
and_second true b h = h
and_second false b h = absurd (true≢false (sym h))

pub and_both : (a b : Bool) → a ≡ true → b ≡ true → (a && b) ≡ true
and_both true b h k = k
and_both false b h k = h

-- two answers that are yes for the same are the same
pub same_answer : (a b : Bool) → (a ≡ true → b ≡ true) → (b ≡ true → a ≡ true) → a ≡ b
same_answer true b there back = sym (there refl)
same_answer false true there back = back refl
same_answer false false there back = refl

module _ {X : Type 0} where
  -- one of a list passes exactly where a member does
  pub any_there : (p : X → Bool) (xs : List X) → list_any p xs ≡ true → (x : X) × (p x ≡ true) × Contains xs x
  any_there p [] h = absurd (true≢false (sym h))
  any_there p (x ∷ xs) h = elim (or_cases (p x) (list_any p xs) h) [
    | inl here ↦ (x, here, first_is_there x xs)
    | inr later ↦ let found = any_there p xs later in (found.0, found.1, later_is_there x found.0 xs found.2)
  ]

  pub any_found : (p : X → Bool) (xs : List X) (x : X) → p x ≡ true → Contains xs x → list_any p xs ≡ true
  any_found p [] x passes h = absurd (none_in_nothing x h)
  any_found p (y ∷ ys) x passes h = elim (member_cases y x ys h) [
    | inl is ↦ or_left (p y) (list_any p ys) (subst (λ z. p z ≡ true) (sym is) passes)
    | inr later ↦ or_right (p y) (list_any p ys) (any_found p ys x passes later)
  ]

  pub any_weaker : (p q : X → Bool) → ((x : X) → p x ≡ true → q x ≡ true) → (xs : List X) → list_any p xs ≡ true → list_any q xs ≡ true
  any_weaker p q weaker xs h = let found = any_there p xs h in any_found q xs found.0 (weaker found.0 found.1) found.2

  pub any_alike : (p q : X → Bool) (xs : List X) → All (λ x. p x ≡ q x) xs → list_any p xs ≡ list_any q xs
  any_alike p q [] all = refl
  any_alike p q (x ∷ xs) all =
      λ i. All-head (λ x. p x ≡ q x) x xs all i || any_alike p q xs (All-tail (λ x. p x ≡ q x) x xs all) i
