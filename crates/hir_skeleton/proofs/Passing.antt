-- Tests of lifetimes through substitution.
use Rattle.std.proofs.Common.{◌≡◌, ℕ, zero, suc, Bool, true, false, true≢false, List, [], ◌∷◌, Some, slice_get, refl, sym, ap, ◌∙◌, inl, inr, ◌||◌}
use Rattle.std.specs.List.{Contains, list_any}
use Rattle.hir_life.specs.Substitution.{subst, subst_each}
use Rattle.hir_life.proofs.Substituting.{subst_through}
use Rattle.hir_life.specs.declared.maybe_static.MaybeStatic.{MaybeStatic}
use Rattle.hir_life.specs.declared.maybe_static.MaybeStatic.TheVariants.{Static, NonStatic}
use Rattle.std.proofs.lemmas.Option.{none-some, same_Some}
use Rattle.hir_skeleton.specs.Leaves.{number_passes, through}
use Rattle.hir_skeleton.proofs.Members.{none_in_nothing, first_is_there, later_is_there, member_cases}

-- a lifetime passes through arguments where what stands for it passes
pub passes_through : (test : ℕ → Bool) (args : List (MaybeStatic ℕ)) (l : MaybeStatic ℕ) → number_passes (through test args) l ≡ number_passes test (subst l args)
passes_through test args Static = refl
passes_through test args (NonStatic l) = refl

through_once_more : (test : ℕ → Bool) (args given : List (MaybeStatic ℕ)) (l : ℕ) → through (through test args) given l ≡ through test (subst_each given args) l
through_once_more test args given l =
    passes_through test args (subst (NonStatic l) given) ∙ ap (number_passes test) (subst_through (NonStatic l) given args)

-- through two lists of arguments is through the second, substituted
pub through_twice : (test : ℕ → Bool) (args given : List (MaybeStatic ℕ)) → through (through test args) given ≡ through test (subst_each given args)
through_twice test args given = λ i l. through_once_more test args given l i

pub each_through : (given args : List (MaybeStatic ℕ)) (ls : List (MaybeStatic ℕ)) → subst_each (subst_each ls given) args ≡ subst_each ls (subst_each given args)
each_through given args [] = refl
each_through given args (l ∷ ls) = λ i. subst_through l given args i ∷ each_through given args ls i

-- whether one of several passes
pub any_through : (test : ℕ → Bool) (args ls : List (MaybeStatic ℕ)) → list_any (number_passes (through test args)) ls ≡ list_any (number_passes test) (subst_each ls args)
any_through test args [] = refl
any_through test args (l ∷ ls) = λ i. passes_through test args l i || any_through test args ls i

-- a number that passes is among those of which one passes
pub passing_number : (test : ℕ → Bool) (ls : List (MaybeStatic ℕ)) → list_any (number_passes test) ls ≡ true → (d : ℕ) × (test d ≡ true) × Contains ls (NonStatic d)
passing_number test [] h = absurd (true≢false (sym h))
passing_number test (Static ∷ ls) h =
    let found = passing_number test ls h in (found.0, found.1, later_is_there Static (NonStatic found.0) ls found.2)
passing_number test (NonStatic l ∷ ls) h = number_or_later test l ls (test l) refl h (passing_number test ls)
  where
    number_or_later : (test : ℕ → Bool) (l : ℕ) (ls : List (MaybeStatic ℕ)) (b : Bool) → test l ≡ b → (b || list_any (number_passes test) ls) ≡ true
        → (list_any (number_passes test) ls ≡ true → (d : ℕ) × (test d ≡ true) × Contains ls (NonStatic d))
        → (d : ℕ) × (test d ≡ true) × Contains (NonStatic l ∷ ls) (NonStatic d)
    number_or_later test l ls true is h more = (l, is, first_is_there (NonStatic l) ls)
    number_or_later test l ls false is h more =
        let found = more h in (found.0, found.1, later_is_there (NonStatic l) (NonStatic found.0) ls found.2)

or_true : (a b : Bool) → b ≡ true → (a || b) ≡ true
or_true true b e = refl
or_true false b e = e

true_or : (a b : Bool) → a ≡ true → (a || b) ≡ true
true_or true b e = refl
true_or false b e = absurd (true≢false (sym e))

pub some_passes : (test : ℕ → Bool) (ls : List (MaybeStatic ℕ)) (d : ℕ) → test d ≡ true → Contains ls (NonStatic d) → list_any (number_passes test) ls ≡ true
some_passes test [] d holds h = absurd (none_in_nothing (NonStatic d) h)
some_passes test (l ∷ ls) d holds h =
    elim (member_cases l (NonStatic d) ls h) [
      | inl is ↦ true_or (number_passes test l) _ (ap (number_passes test) is ∙ holds)
      | inr more ↦ or_true (number_passes test l) _ (some_passes test ls d holds more)
    ]

-- a position passes where its argument is a number that passes
pub passing_argument : (test : ℕ → Bool) (args : List (MaybeStatic ℕ)) (e : ℕ) → through test args e ≡ true → (d : ℕ) × (test d ≡ true) × (slice_get args e ≡ Some (NonStatic d))
passing_argument test [] e h = absurd (true≢false (sym h))
passing_argument test (Static ∷ args) zero h = absurd (true≢false (sym h))
passing_argument test (NonStatic d ∷ args) zero h = (d, h, refl)
passing_argument test (a ∷ args) (suc e) h = passing_argument test args e h

pub argument_passes : (test : ℕ → Bool) (args : List (MaybeStatic ℕ)) (e d : ℕ) → test d ≡ true → slice_get args e ≡ Some (NonStatic d) → through test args e ≡ true
argument_passes test [] e d holds at = absurd (none-some (NonStatic d) at)
argument_passes test (a ∷ args) zero d holds at = ap (number_passes test) (same_Some a (NonStatic d) at) ∙ holds
argument_passes test (a ∷ args) (suc e) d holds at = argument_passes test args e d holds at
