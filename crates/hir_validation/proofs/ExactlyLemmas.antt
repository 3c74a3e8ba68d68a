-- Lists that tell exactly what is said, of what may be there, of numbered lifetimes, and of numbered things.
use Rattle.std.proofs.Common.{◌≡◌, ◌+◌, ℕ, zero, suc, List, [], ◌∷◌, Bool, true, false, cond, Option, Some, None, slice_get, refl, sym, subst, ap, ◌∙◌, arith, inl, inr}
use Rattle.std.specs.List.{Contains, enumerate_from}
use Rattle.bridge_telling.specs.Telling.{TellsExactly}
use Rattle.bridge_telling.proofs.ExactLemmas.{in_cases, in_first, in_none, in_rest}
use Rattle.hir_life.specs.declared.maybe_static.MaybeStatic.{MaybeStatic}
use Rattle.hir_life.specs.declared.maybe_static.MaybeStatic.TheVariants.{NonStatic, Static}
use Rattle.hir_mentions.specs.Mentions.{where_any}
use Rattle.hir_validation.specs.Lifetimes.{where_number}
use Rattle.hir_validation.specs.Tests.{is_some_such}

pub same_some : {A : Type 0} (x y : A) → Some x ≡ Some y → x ≡ y
same_some x y h = cc

pub never_some : {A : Type 0} (x : A) → ¬ (None ≡ Some x)
never_some x h = cc

same_number : (n m : ℕ) → NonStatic n ≡ NonStatic m → n ≡ m
same_number n m h = cc

never_number : (n : ℕ) → ¬ (Static ≡ NonStatic n)
never_number n h = cc

-- ---- tests

pub isnt : (b : Bool) → ¬ (b ≡ true) → b ≡ false
isnt true h = absurd (h refl)
isnt false h = refl

pub false_isnt : (b : Bool) → b ≡ false → ¬ (b ≡ true)
false_isnt true h t = cc
false_isnt false h t = cc

pub such_of : {A : Type 0} (test : A → Bool) (o : Option A) → is_some_such test o ≡ true → (x : A) × ((o ≡ Some x) × (test x ≡ true))
such_of test None h = absurd (false_isnt false refl h)
such_of test (Some x) h = (x, (refl, h))

pub of_such : {A : Type 0} (test : A → Bool) (o : Option A) (x : A) → o ≡ Some x → test x ≡ true → is_some_such test o ≡ true
of_such test o x is h = ap (is_some_such test) is ∙ h

-- where a test passes
pub cond_exactly : {E : Type 0} (b : Bool) (xs : List E) (P : E → Type 0) → TellsExactly xs P → TellsExactly (cond b xs []) (λ e. (b ≡ true) × P e)
cond_exactly true xs P p e = (λ h. (refl, (p e).0 h), λ h. (p e).1 h.1)
cond_exactly false xs P p e = (λ h. absurd (in_none e h), λ h. absurd (false_isnt false refl h.0))

-- ---- lists

-- of what may be there
pub any_exactly : {X E : Type 0} (f : X → List E) (P : X → E → Type 0) → ((x : X) → TellsExactly (f x) (P x)) → (o : Option X)
    → TellsExactly (where_any f o) (λ e. (x : X) × ((o ≡ Some x) × P x e))
any_exactly f P p None e = (λ h. absurd (in_none e h), λ h. absurd (never_some h.0 h.1.0))
any_exactly f P p (Some y) e = (λ h. (y, (refl, (p y e).0 h)), λ h. (p y e).1 (subst (λ x. P x e) (sym (same_some y h.0 h.1.0)) h.1.1))

-- of the number of a lifetime
pub number_exactly : {E : Type 0} (f : ℕ → List E) (P : ℕ → E → Type 0) → ((l : ℕ) → TellsExactly (f l) (P l)) → (x : MaybeStatic ℕ)
    → TellsExactly (where_number f x) (λ e. (l : ℕ) × ((x ≡ NonStatic l) × P l e))
number_exactly f P p Static e = (λ h. absurd (in_none e h), λ h. absurd (never_number h.0 h.1.0))
number_exactly f P p (NonStatic n) e = (λ h. (n, (refl, (p n e).0 h)), λ h. (p n e).1 (subst (λ x. P x e) (sym (same_number n h.0 h.1.0)) h.1.1))

-- what has a number stands at its place
pub numbered_at : {X : Type 0} (k : ℕ) (xs : List X) (e : ℕ × X) → Contains (enumerate_from k xs) e → (i : ℕ) × ((k + i ≡ e.0) × (slice_get xs i ≡ Some e.1))
numbered_at k [] e h = absurd (in_none e h)
numbered_at {X} k (x ∷ xs) e h = elim (in_cases (k, x) (enumerate_from (k + 1) xs) e h) [
  | inl is ↦ (0, (here ∙ sym (ap (λ (p : ℕ × X). p.0) is), ap (λ (p : ℕ × X). Some p.1) (sym is)))
  | inr more ↦ let w = numbered_at (k + 1) xs e more in (suc w.0, (next w.0 w.1.0, w.1.1))
]
  where
    here : k + 0 ≡ k
    here = omega arith

    next : (i : ℕ) → k + 1 + i ≡ e.0 → k + suc i ≡ e.0
    next i is = omega (arith, is)

pub at_number : {X : Type 0} (k : ℕ) (xs : List X) (i j : ℕ) (x : X) → k + i ≡ j → slice_get xs i ≡ Some x → Contains (enumerate_from k xs) (j, x)
at_number k [] i j x is there = absurd (never_some x there)
at_number {X} k (y ∷ xs) zero j x is there =
    subst (λ (p : ℕ × X). Contains ((k, y) ∷ enumerate_from (k + 1) xs) p) (ap (λ i. (i, y)) same ∙ ap (λ z. (j, z)) (same_some y x there)) (in_first (k, y) (enumerate_from (k + 1) xs))
  where
    same : k ≡ j
    same = omega (arith, is)
at_number k (y ∷ xs) (suc i) j x is there = in_rest (k, y) (enumerate_from (k + 1) xs) (j, x) (at_number (k + 1) xs i j x next there) where
  next : k + 1 + i ≡ j
  next = omega (arith, is)
