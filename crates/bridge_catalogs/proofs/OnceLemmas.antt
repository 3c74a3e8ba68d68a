-- Lists in which nothing stands twice.
use Rattle.std.proofs.Common.{◌≡◌, ℕ, zero, suc, List, [], ◌∷◌, ◌++◌, length, Some, inl, inr, refl, sym, ap, subst, ◌∙◌, arith}
use Rattle.std.specs.Prelude.{⊤, Contains, slice_get}
use Rattle.std.specs.List.{flat_map}
use Rattle.std.proofs.lemmas.List.Elements.{Contains-append_cases}
use Rattle.bridge_order.proofs.OrderLemmas.{got}

-- none stands twice
abbrev pub Once : {A : Type 0} → List A → Type 0
Once [] = ⊤
Once (x ∷ xs) = ¬ (Contains xs x) × Once xs

pub stands_first : {A : Type 0} (x : A) (xs : List A) → Contains (x ∷ xs) x
stands_first x xs = (0, omega (arith), refl)

pub stands_later : {A : Type 0} (x : A) (xs : List A) (z : A) → Contains xs z → Contains (x ∷ xs) z
stands_later x xs z c = (suc c.0, omega (arith, c.1), c.2)

pub stands_got : {A : Type 0} (xs : List A) (i : ℕ) (x : A) → slice_get xs i ≡ Some x → Contains xs x
stands_got xs i x e = let g = got xs i x e in (i, g.0, g.1)

pub once_both : {A : Type 0} (xs ys : List A) → Once xs → Once ys → ((z : A) → Contains xs z → Contains ys z → ⊥) → Once (xs ++ ys)
once_both [] ys p q apart = q
once_both (x ∷ xs) ys p q apart = (
  λ c. elim (Contains-append_cases xs ys x c) [ inl l ↦ p.0 l | inr r ↦ apart x (stands_first x xs) r ],
  once_both xs ys p.1 q (λ z l r. apart z (stands_later x xs z l) r),
)

-- what stands in one of the lists that are joined stands in the list of something
pub stands_of : {A B : Type 0} (f : A → List B) (xs : List A) (z : B) → Contains (flat_map f xs) z
    → (x : A) × Contains xs x × Contains (f x) z
stands_of f [] z c = absurd (omega (arith, c.1))
stands_of f (x ∷ xs) z c = elim (Contains-append_cases (f x) (flat_map f xs) z c) [
  | inl l ↦ (x, stands_first x xs, l)
  | inr r ↦ let of = stands_of f xs z r in (of.0, stands_later x xs of.0 of.1, of.2)
]

-- joined lists, where a thing tells of which it is
pub once_joined : {A B : Type 0} (f : A → List B) (whose : B → A) → ((x : A) (z : B) → Contains (f x) z → whose z ≡ x)
    → ((x : A) → Once (f x)) → (xs : List A) → Once xs → Once (flat_map f xs)
once_joined f whose tells each [] once = tt
once_joined f whose tells each (x ∷ xs) once =
    once_both (f x) (flat_map f xs) (each x) (once_joined f whose tells each xs once.1)
    (λ z l r. let of = stands_of f xs z r in once.0 (subst (Contains xs) (sym (tells of.0 z of.2) ∙ tells x z l) of.1))

-- it stands at one number
pub one_number : {A : Type 0} (xs : List A) (i j : ℕ) (x : A) → Once xs → slice_get xs i ≡ Some x → slice_get xs j ≡ Some x → i ≡ j
one_number [] i j x once a b = absurd cc
one_number (y ∷ ys) zero zero x once a b = refl
one_number (y ∷ ys) zero (suc j) x once a b =
    let is : y ≡ x = cc in
    absurd (once.0 (subst (Contains ys) (sym is) (stands_got ys j x b)))
one_number (y ∷ ys) (suc i) zero x once a b =
    let is : y ≡ x = cc in
    absurd (once.0 (subst (Contains ys) (sym is) (stands_got ys i x a)))
one_number (y ∷ ys) (suc i) (suc j) x once a b = ap suc (one_number ys i j x once.1 a b)

-- two lists with as many things, and with the same at each number, are the same
pub same_lists : {A : Type 0} (xs ys : List A) → length xs ≡ length ys
    → ((i : ℕ) (x y : A) → slice_get xs i ≡ Some x → slice_get ys i ≡ Some y → x ≡ y) → xs ≡ ys
same_lists [] [] e at = refl
same_lists [] (y ∷ ys) e at = absurd cc
same_lists (x ∷ xs) [] e at = absurd cc
same_lists (x ∷ xs) (y ∷ ys) e at =
    let head : x ≡ y = at 0 x y refl refl in
    let tail : xs ≡ ys = same_lists xs ys (omega (arith, e)) (λ i a b. at (suc i) a b) in
    ap (λ z. z ∷ xs) head ∙ ap (λ zs. y ∷ zs) tail
