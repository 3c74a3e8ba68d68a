-- The occurrences of lifetimes in a signature, one list of what its uses write, with the anonymous ones that fill a path's
-- generics up, each with its role. The generics of `Self` stand once, where `Self` is first. What a return uses beside these is
-- no occurrence, but for that of a trait's method, in which nothing is elided; and nor is what a definition uses.
use Rattle.std.specs.Prelude.{List, [], ◌∷◌, map, Bool, true, false, ◌||◌}
use Rattle.bridge_decl.specs.declared.lifetimes.Lifetime.{Lifetime}
use Rattle.bridge_decl.specs.declared.lifetimes.LifetimeEnv.{LifetimeEnv}
use Rattle.bridge_ast.specs.Each.{each}
use Rattle.hir_elide.specs.Occurrences.{Role, Own, Counting, Occurrence, Signature}
use Rattle.hir_elide.specs.Phases.{Using, Returning, Defining}
use Rattle.hir_number.specs.Signatures.{Placed, Usual, TraitReturn}
use Rattle.hir_number.specs.Uses.{Use, One, Path, lifetimes_used}

-- ---- `Self`

-- whether a use is one of `Self`
abbrev pub is_own_use : Use → Bool
is_own_use (One l) = false
is_own_use (Path is_self path found) = is_self

-- whether it is one of `Self` in a signature
abbrev pub meets_self : Placed → Bool
meets_self (Usual (Using role), u) = is_own_use u
meets_self (Usual Returning, u) = is_own_use u
meets_self (Usual Defining, u) = false
meets_self (TraitReturn, u) = is_own_use u

-- whether `Self` is among these uses
abbrev pub has_own : List Placed → Bool
has_own [] = false
has_own (p ∷ ps) = meets_self p || has_own ps

-- ---- occurrences

-- the role in which a lifetime occurs
pub data AppearanceRole : Type 0 where
  -- one that elision knows: the receiver's borrow, one of the generics of `Self`, or one that counts
  Elides : Role → AppearanceRole
  -- it stands in the return of a trait's method, and is none of these
  Neither : AppearanceRole

-- a lifetime where it occurs
pub record Appearance : Type 0 where
  pub lifetime : Lifetime
  pub role : AppearanceRole

-- these occur in that role
abbrev pub appearing : AppearanceRole → List Lifetime → List Appearance
appearing role ls = map (λ l. record { lifetime = l; role = role }) ls

-- the generics of `Self`, where it was met and where it wasn't
abbrev pub own_occurrences : Bool → List Lifetime → List Appearance
own_occurrences true ls = []
own_occurrences false ls = appearing (Elides Own) ls

-- those of a path that may be that of `Self`, where it was met or wasn't
abbrev pub path_occurrences : Bool → Bool → AppearanceRole → List Lifetime → List Appearance
path_occurrences true met role ls = own_occurrences met ls
path_occurrences false met role ls = appearing role ls

-- those of a path in a return
abbrev pub returned_occurrences : Bool → Bool → List Lifetime → List Appearance
returned_occurrences true met ls = own_occurrences met ls
returned_occurrences false met ls = []

-- those of a use
abbrev pub use_occurrences : Bool → Placed → List Appearance
use_occurrences met (Usual (Using role), u) = path_occurrences (is_own_use u) met (Elides role) (lifetimes_used u)
use_occurrences met (Usual Returning, u) = returned_occurrences (is_own_use u) met (lifetimes_used u)
use_occurrences met (Usual Defining, u) = []
use_occurrences met (TraitReturn, u) = path_occurrences (is_own_use u) met Neither (lifetimes_used u)

-- those of uses
abbrev pub occurrences : List Placed → List Appearance
occurrences ps = each (λ before p. use_occurrences (has_own before) p) ps

-- ---- as elision has them

-- the role for elision: what is neither has a number as what counts has, and nothing comes after it that is elided
abbrev pub elide_role : AppearanceRole → Role
elide_role (Elides role) = role
elide_role Neither = Counting

abbrev pub elide_occurrence : Appearance → Occurrence
elide_occurrence e = record { lifetime = e.lifetime; role = elide_role e.role }

-- the signature in which these are used
abbrev pub signature_with : LifetimeEnv → List Placed → Signature
signature_with declared ps = record { declared = declared; occurrences = map elide_occurrence (occurrences ps); has_self = has_own ps }
