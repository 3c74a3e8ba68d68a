-- What tests of lists say, one element after another.
use Rattle.std.proofs.Common.{◌≡◌, ℕ, ◌+◌, ◌<◌, ◌≤◌, ◌↔◌, ◌⊎◌, inl, inr, Bool, false, IsTrue, List, [], ◌∷◌, ◌++◌, length, get_or, take, sym, ◌∙◌, ap, subst}
use Rattle.std.specs.List.{All, Contains}
use Rattle.std.proofs.lemmas.Bool.{false≢true}
use Rattle.std.proofs.lemmas.List.{take_more, take_all}
use Rattle.std.proofs.lemmas.List.Elements.{All-more, All-same, Contains-push_cases}
use Rattle.hir_life.specs.Environment.{Environment, longer_of}
use Rattle.hir_life.specs.Outlives.{Direct}
use Rattle.hir_life.specs.declared.maybe_static.MaybeStatic.{MaybeStatic}
use Rattle.hir_life.specs.declared.maybe_static.MaybeStatic.TheVariants.{NonStatic}
use Rattle.hir_explain.specs.Explanations.{IsCarried, IsSteady, Separates}
use Rattle.hir_explain.specs.inside.Numbers.{HasNumber}

-- a test that is false of what its answer says
pub says_no : (b : Bool) (P : Type 0) → (IsTrue b ↔ P) → b ≡ false → P → ⊥
says_no b P is off p = false≢true (sym off ∙ is.1 p)

-- the answer is no where the fact doesn't hold
pub no_from : (P : Type 0) → (P → ⊥) → (IsTrue false ↔ P)
no_from P not = (λ h. absurd (false≢true h), λ p. absurd (not p))

-- one element more is tested
pub all_more :
    {X : Type 0} (P : X → Type 0) (xs : List X) (i : ℕ) (item : X) → i < length xs → item ≡ get_or xs i item
    → P item → All P (take i xs) → All P (take (i + 1) xs)
all_more P xs i item within is holds before = All-more P xs i item within before (subst P is holds)

-- all were tested
pub all_tested : {X : Type 0} (P : X → Type 0) (xs : List X) (i : ℕ) → length xs ≤ i → All P (take i xs) → All P xs
all_tested P xs i end tested = All-same P xs (take i xs) (sym (take_all i xs end)) tested

-- an element that was read stands in the list
pub contains_item : {X : Type 0} (xs : List X) (i : ℕ) (item : X) → i < length xs → item ≡ get_or xs i item → Contains xs item
contains_item xs i item within is = (i, within, sym is)

-- what stands in one element more
pub contains_more :
    {X : Type 0} (xs : List X) (i : ℕ) (item x : X) → i < length xs → item ≡ get_or xs i item
    → Contains (take (i + 1) xs) x → Contains (take i xs) x ⊎ (item ≡ x)
contains_more xs i item x within is h =
    Contains-push_cases (take i xs) item x
    (subst (λ r. Contains r x) (take_more xs i item within ∙ ap (λ y. take i xs ++ y ∷ []) (sym is)) h)

-- what stands in the list stands in what was gone through
pub contains_taken : {X : Type 0} (xs : List X) (i : ℕ) (x : X) → length xs ≤ i → Contains xs x → Contains (take i xs) x
contains_taken xs i x end h = subst (λ r. Contains r x) (sym (take_all i xs end)) h

-- a carried lifetime that is in the list
pub has_carried_one :
    (carried : List (MaybeStatic ℕ)) (long : List ℕ) (i : ℕ) (item : MaybeStatic ℕ) → i < length carried
    → item ≡ get_or carried i item → HasNumber long item → ((l : ℕ) → IsCarried carried l → Contains long l → ⊥) → ⊥
has_carried_one carried long i (NonStatic l) within is has apart = apart l (contains_item carried i (NonStatic l) within is) has
has_carried_one carried long i item within is has apart = has

-- one carried lifetime more isn't in the list
pub apart_more :
    (carried : List (MaybeStatic ℕ)) (long : List ℕ) (i : ℕ) (item : MaybeStatic ℕ) → i < length carried
    → item ≡ get_or carried i item → (HasNumber long item → ⊥)
    → ((l : ℕ) → IsCarried (take i carried) l → Contains long l → ⊥) → (l : ℕ) → IsCarried (take (i + 1) carried) l
    → Contains long l → ⊥
apart_more carried long i item within is not before l carries has =
    elim (contains_more carried i item (NonStatic l) within is carries) [
      | inl old ↦ before l old has
      | inr e ↦ not (subst (λ x. HasNumber long x) (sym e) has)
    ]

-- one lifetime more has its bounds in the list
pub steady_more :
    (e : Environment) (long : List ℕ) (i item : ℕ) → i < length long → item ≡ get_or long i item
    → ((l : ℕ) → Contains (longer_of e item) l → Contains long l)
    → ((l s : ℕ) → Contains (take i long) s → Direct (longer_of e) l s → Contains long l) → (l s : ℕ)
    → Contains (take (i + 1) long) s → Direct (longer_of e) l s → Contains long l
steady_more e long i item within is all before l s has direct =
    elim (contains_more long i item s within is has) [
      | inl old ↦ before l s old direct
      | inr same ↦ all l (subst (λ x. Contains (longer_of e x) l) (sym same) direct)
    ]

-- with the other two parts, to be steady is to separate
pub separates_is :
    (e : Environment) (carried : List (MaybeStatic ℕ)) (t : ℕ) (long : List ℕ) (steady : Bool) → Contains long t
    → ((l : ℕ) → IsCarried carried l → Contains long l → ⊥) → (IsTrue steady ↔ IsSteady e long)
    → (IsTrue steady ↔ Separates e carried t long)
separates_is e carried t long steady has_t apart is =
    (λ h. record { steady = is.0 h; has_t = has_t; apart = apart }, λ s. is.1 s.steady)
