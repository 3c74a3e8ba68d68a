-- As many numbers come back as there are lifetimes.
use Rattle.std.proofs.Common.{◌≡◌, arith, ℕ, suc, ◌-◌, ◌≤◌, List, [], ◌∷◌, length, true, false, Bool, Ok, Err, Result, refl, ap, subst, ◌∙◌}
use Rattle.std.specs.Prelude.{⊤, IfOk, replicate}
use Rattle.std.proofs.lemmas.List.{length-append, length-map, length-replicate}
use Rattle.bridge_decl.specs.declared.lifetimes.Lifetime.{Lifetime}
use Rattle.bridge_decl.specs.declared.lifetimes.Lifetime.TheVariants as written
use Rattle.hir_elide.specs.declared.fault.ElideFault.{ElideFault}
use Rattle.hir_elide.specs.Generics.{IsUnlessNoMemory, OwnHasArity, all_or_fault, filled, lowered_generics, own_numbers, with_first}
use Rattle.hir_elide.specs.Numbering.{Number, lifetime_numbers, one_if_anonymous}
use Rattle.hir_elide.specs.Occurrences.{Own, Signature}
use Rattle.hir_elide.specs.Phases.{Phase, Using, Returning, Defining, defined, lowered_each, returned}
use Rattle.hir_life.specs.declared.maybe_static.MaybeStatic.{MaybeStatic}

-- so many, if there are any
abbrev pub Long : {A E : Type 0} → ℕ → Result (List A) E → Type 0
Long n (Ok xs) = length xs ≡ n
Long n (Err e) = ⊤

first_long : (n : ℕ) (x : MaybeStatic ℕ) (r : Result (List (MaybeStatic ℕ)) ElideFault) → Long n r → Long (suc n) (with_first x r)
first_long n x (Ok xs) h = ap suc h
first_long n x (Err e) h = tt

-- all numbers are as many as the answers
pub all_long : (rs : List Number) → Long (length rs) (all_or_fault rs)
all_long [] = refl
all_long (Ok x ∷ rs) = first_long (length rs) x (all_or_fault rs) (all_long rs)
all_long (Err e ∷ rs) = tt

numbers_long : (names : List (List ℕ)) (c : ℕ) (ls : List Lifetime) → length (lifetime_numbers names c ls) ≡ length ls
numbers_long names c [] = refl
numbers_long names c (l ∷ ls) = ap suc (numbers_long names (one_if_anonymous l c) ls)

pub each_long : (phase : Phase) (s : Signature) (ls : List Lifetime) → length (lowered_each phase s ls) ≡ length ls
each_long (Using role) s ls = numbers_long _ _ ls
each_long Returning s ls = length-map ls (returned s)
each_long Defining s ls = length-map ls (defined s)

pub filled_long : (ls : List Lifetime) (n : ℕ) → length ls ≤ n → length (filled ls n) ≡ n
filled_long ls n h =
    let whole = length-append ls (replicate (n - length ls) written.Anonymous) in
    let rest = length-replicate (n - length ls) written.Anonymous in
    omega (arith, whole, rest, h)

-- the generics of `Self`, where those that were met are as many
pub own_long : (met : Bool) (s : Signature) (ls : List Lifetime) (n : ℕ) → length ls ≡ n → (met ≡ true → length (own_numbers true s ls) ≡ n) → length (own_numbers met s ls) ≡ n
own_long true s ls n h k = k refl
own_long false s ls n h k = each_long (Using Own) s ls ∙ h

-- whether `Self` is met
abbrev pub meets_at : Phase → Bool → Bool
meets_at (Using role) is_self = is_self
meets_at Returning is_self = is_self
meets_at Defining is_self = false

pub generics_long : (phase : Phase) (is_self : Bool) (s : Signature) (ls : List Lifetime) (n : ℕ) → length ls ≡ n → (meets_at phase is_self ≡ true → OwnHasArity s n)
    → length (lowered_generics phase is_self s ls) ≡ n
generics_long (Using role) true s ls n h k = own_long s.has_self s ls n h (k refl)
generics_long (Using role) false s ls n h k = each_long (Using role) s ls ∙ h
generics_long Returning true s ls n h k = own_long s.has_self s ls n h (k refl)
generics_long Returning false s ls n h k = each_long Returning s ls ∙ h
generics_long Defining is_self s ls n h k = each_long Defining s ls ∙ h

long_told : (n : ℕ) (r : Result (List (MaybeStatic ℕ)) ElideFault) (answer : Result (List (MaybeStatic ℕ)) ElideFault) → Long n answer → IsUnlessNoMemory r answer
    → IfOk r (λ numbers. length numbers ≡ n)
long_told n (Ok xs) answer h told = subst (Long n) told h
long_told n (Err e) answer h told = tt

-- what is told of the generics of `Self` has as many
pub own_told_long : (s : Signature) (ls : List Lifetime) (n : ℕ) (r : Result (List (MaybeStatic ℕ)) ElideFault) → length ls ≤ n → OwnHasArity s n
    → IsUnlessNoMemory r (all_or_fault (own_numbers s.has_self s (filled ls n))) → IfOk r (λ numbers. length numbers ≡ n)
own_told_long s ls n r few own told =
    let rs : List Number = own_numbers s.has_self s (filled ls n) in
    long_told n r (all_or_fault rs) (subst (λ m. Long m (all_or_fault rs)) (own_long s.has_self s (filled ls n) n (filled_long ls n few) own) (all_long rs)) told
