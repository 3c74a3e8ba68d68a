-- Lists of lifetimes: the generics that a path writes, filled up with anonymous ones to the number that its definition has. The
-- example throughout is `impl<'a> Foo<'a> { fn f(self, x: Bar<'a>, y: Self) }`, where `Bar` has two lifetimes.
use Rattle.std.specs.Prelude.{◌≡◌, ⊤, ℕ, ◌-◌, List, [], ◌∷◌, ◌++◌, length, replicate, Bool, true, false, Result, Ok, Err}
use Rattle.bridge_decl.specs.declared.lifetimes.Lifetime.{Lifetime}
use Rattle.bridge_decl.specs.declared.lifetimes.Lifetime.TheVariants as written
use Rattle.hir_elide.specs.declared.fault.ElideFault.{ElideFault}
use Rattle.hir_elide.specs.declared.fault.ElideFault.TheVariants as fault
use Rattle.hir_elide.specs.Numbering.{Number}
use Rattle.hir_elide.specs.Occurrences.{Own, Signature, is_own, used_as}
use Rattle.hir_elide.specs.Phases.{Phase, Using, Returning, Defining, lowered_each, with_uses}
use Rattle.hir_life.specs.declared.maybe_static.MaybeStatic.{MaybeStatic}

-- the lifetimes that stand for a path's generics, of which its definition has so many: for `Bar<'a>` these are `'a` and an
-- anonymous one
abbrev pub filled : List Lifetime → ℕ → List Lifetime
filled lifetimes count = lifetimes ++ replicate (count - length lifetimes) written.Anonymous

-- a number before these, or their fault
abbrev pub with_first : MaybeStatic ℕ → Result (List (MaybeStatic ℕ)) ElideFault → Result (List (MaybeStatic ℕ)) ElideFault
with_first number (Ok numbers) = Ok (number ∷ numbers)
with_first number (Err e) = Err e

-- all of these numbers, or the first rule that is broken
abbrev pub all_or_fault : List Number → Result (List (MaybeStatic ℕ)) ElideFault
all_or_fault [] = Ok []
all_or_fault (Ok number ∷ rest) = with_first number (all_or_fault rest)
all_or_fault (Err e ∷ rest) = Err e

-- `Self` was met
abbrev pub met : Signature → Signature
met s = record { declared = s.declared; occurrences = s.occurrences; has_self = true }

-- the numbers of `Self`'s generics are those of its first occurrence, wherever it stands in the signature: that of y has the 0 of
-- the receiver
abbrev pub own_numbers : Bool → Signature → List Lifetime → List Number
own_numbers true s ls = used_as is_own s
own_numbers false s ls = lowered_each (Using Own) s ls

-- the signature after that: the generics are used at the first occurrence alone
abbrev pub with_own : Bool → Signature → List Lifetime → Signature
with_own true s ls = s
with_own false s ls = met (with_uses (Using Own) s ls)

-- those of a path that may be that of `Self`
abbrev pub path_numbers : Bool → Phase → Signature → List Lifetime → List Number
path_numbers true phase s ls = own_numbers s.has_self s ls
path_numbers false phase s ls = lowered_each phase s ls

-- the signature after that
abbrev pub with_path : Bool → Phase → Signature → List Lifetime → Signature
with_path true phase s ls = with_own s.has_self s ls
with_path false phase s ls = with_uses phase s ls

-- what the generics of a path are lowered to: in a definition `Self` is no other than any path
abbrev pub lowered_generics : Phase → Bool → Signature → List Lifetime → List Number
lowered_generics (Using role) is_self s ls = path_numbers is_self (Using role) s ls
lowered_generics Returning is_self s ls = path_numbers is_self Returning s ls
lowered_generics Defining is_self s ls = lowered_each Defining s ls

-- the signature after that
abbrev pub with_generics : Phase → Bool → Signature → List Lifetime → Signature
with_generics (Using role) is_self s ls = with_path is_self (Using role) s ls
with_generics Returning is_self s ls = with_path is_self Returning s ls
with_generics Defining is_self s ls = with_uses Defining s ls

-- `Self`, where it was met, was used with so many lifetimes: where nothing is wrong with its paths by themselves, they are as many
-- as its definition has
abbrev pub OwnHasArity : Signature → ℕ → Type 0
OwnHasArity s count = s.has_self ≡ true → length (used_as is_own s) ≡ count

-- a fault is that of the answer, unless it is want of memory
abbrev pub TellsFault : {A : Type 0} → ElideFault → Result A ElideFault → Type 0
TellsFault fault.NoMemory answer = ⊤
TellsFault fault.LifetimeUnknown answer = answer ≡ Err fault.LifetimeUnknown
TellsFault fault.AnonymousInDefinition answer = answer ≡ Err fault.AnonymousInDefinition
TellsFault fault.ElisionNoSource answer = answer ≡ Err fault.ElisionNoSource
TellsFault fault.ElisionAmbiguous answer = answer ≡ Err fault.ElisionAmbiguous
TellsFault fault.TooManyLifetimes answer = answer ≡ Err fault.TooManyLifetimes
TellsFault fault.BadIdent answer = answer ≡ Err fault.BadIdent

-- a call that takes memory gives this answer, unless there is none
abbrev pub IsUnlessNoMemory : {A : Type 0} → Result A ElideFault → Result A ElideFault → Type 0
IsUnlessNoMemory (Ok x) answer = answer ≡ Ok x
IsUnlessNoMemory (Err e) answer = TellsFault e answer
