-- Members of lists.
use Rattle.std.proofs.Common.{◌≡◌, ◌⊎◌, inl, inr, zero, suc, Bool, true, false, cond, List, [], ◌∷◌, map, Option, Some, None, refl, sym, ap, subst, ◌∙◌, arith}
use Rattle.std.specs.List.{Contains, cons_option, filter_map, flat_map}
use Rattle.std.proofs.lemmas.List.Elements.{Contains-append_left, Contains-append_right}

pub none_in_nothing : {A : Type 0} (x : A) → Contains [] x → ⊥
none_in_nothing x h = let lt = h.1 in omega arith

pub first_is_there : {A : Type 0} (x : A) (xs : List A) → Contains (x ∷ xs) x
first_is_there x xs = (0, omega arith, refl)

pub later_is_there : {A : Type 0} (y x : A) (xs : List A) → Contains xs x → Contains (y ∷ xs) x
later_is_there y x xs h = (suc h.0, (let lt = h.1 in omega arith), h.2)

-- a member is the first or a later one
pub member_cases : {A : Type 0} (y x : A) (xs : List A) → Contains (y ∷ xs) x → (y ≡ x) ⊎ Contains xs x
member_cases y x xs (zero, lt, is) = inl is
member_cases y x xs (suc k, lt, is) = inr (k, omega arith, is)

-- what is made of a member is a member, and there is no other
pub mapped_is_there : {A B : Type 0} (f : A → B) (xs : List A) (x : A) → Contains xs x → Contains (map f xs) (f x)
mapped_is_there f [] x h = absurd (none_in_nothing x h)
mapped_is_there f (y ∷ ys) x h =
    elim (member_cases y x ys h) [
      | inl is ↦ subst (λ z. Contains (f y ∷ map f ys) (f z)) is (first_is_there (f y) (map f ys))
      | inr more ↦ later_is_there (f y) (f x) (map f ys) (mapped_is_there f ys x more)
    ]

pub mapped_from : {A B : Type 0} (f : A → B) (xs : List A) (y : B) → Contains (map f xs) y → (x : A) × (f x ≡ y) × Contains xs x
mapped_from f [] y h = absurd (none_in_nothing y h)
mapped_from f (x ∷ xs) y h =
    elim (member_cases (f x) y (map f xs) h) [
      | inl is ↦ (x, is, first_is_there x xs)
      | inr more ↦ let found = mapped_from f xs y more in (found.0, found.1, later_is_there x found.0 xs found.2)
    ]

-- what a member gives is among all that members give
pub gives_there : {X Y : Type 0} (f : X → List Y) (xs : List X) (x : X) (y : Y) → Contains xs x → Contains (f x) y → Contains (flat_map f xs) y
gives_there f [] x y h gives = absurd (none_in_nothing x h)
gives_there f (z ∷ zs) x y h gives = elim (member_cases z x zs h) [
  | inl is ↦ Contains-append_left (f z) (flat_map f zs) y (subst (λ w. Contains (f w) y) (sym is) gives)
  | inr later ↦ Contains-append_right (f z) (flat_map f zs) y (gives_there f zs x y later gives)
]

pub found_there : {X Y : Type 0} (f : X → Option Y) (xs : List X) (x : X) (y : Y) → Contains xs x → f x ≡ Some y → Contains (filter_map f xs) y
found_there f [] x y h is = absurd (none_in_nothing x h)
found_there {X} {Y} f (z ∷ zs) x y h is = elim (member_cases z x zs h) [
  | inl same ↦ subst (λ o. Contains (cons_option o (filter_map f zs)) y) (sym (ap f same ∙ is)) (first_is_there y (filter_map f zs))
  | inr later ↦ still (f z) (found_there f zs x y later is)
] where
  still : (o : Option Y) → Contains (filter_map f zs) y → Contains (cons_option o (filter_map f zs)) y
  still None there = there
  still (Some w) there = later_is_there w y (filter_map f zs) there

-- of a list that may be left out
pub none_or_all : {X : Type 0} (b : Bool) (xs : List X) (x : X) → Contains (cond b [] xs) x → Contains xs x
none_or_all true xs x h = absurd (none_in_nothing x h)
none_or_all false xs x h = h
