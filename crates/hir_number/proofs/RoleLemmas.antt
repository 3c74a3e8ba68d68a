-- What elision is told of a use depends on how lifetimes are lowered in its part alone: where it stands in the return of a trait's
-- method, it is numbered as what counts.
use Rattle.std.proofs.Common.{◌≡◌, List, [], ◌∷◌, map, true, false, Bool, refl, ap}
use Rattle.bridge_decl.specs.declared.lifetimes.Lifetime.{Lifetime}
use Rattle.hir_elide.specs.Occurrences.{Occurrence, Own, Role}
use Rattle.hir_elide.specs.Phases.{Phase, Using, Returning, Defining, occurring}
use Rattle.hir_number.specs.Occurrences.{AppearanceRole, Elides, Neither, elide_occurrence, elide_role, appearing, is_own_use, meets_self, own_occurrences, path_occurrences, returned_occurrences, use_occurrences}
use Rattle.hir_number.specs.Signatures.{Section, Usual, TraitReturn, phase_of}
use Rattle.hir_number.specs.Uses.{Use, lifetimes_used}

-- ---- by phases

abbrev pub own_told : Bool → List Lifetime → List Occurrence
own_told true ls = []
own_told false ls = occurring Own ls

abbrev pub path_told : Bool → Bool → Role → List Lifetime → List Occurrence
path_told true met role ls = own_told met ls
path_told false met role ls = occurring role ls

abbrev pub returned_told : Bool → Bool → List Lifetime → List Occurrence
returned_told true met ls = own_told met ls
returned_told false met ls = []

-- what a use is told as, where lifetimes are lowered so
abbrev pub use_told : Bool → Phase → Use → List Occurrence
use_told met (Using role) u = path_told (is_own_use u) met role (lifetimes_used u)
use_told met Returning u = returned_told (is_own_use u) met (lifetimes_used u)
use_told met Defining u = []

-- whether `Self` is met
abbrev pub phase_meets : Phase → Use → Bool
phase_meets (Using role) u = is_own_use u
phase_meets Returning u = is_own_use u
phase_meets Defining u = false

-- ---- the same by parts

appearing_same : (role : AppearanceRole) (ls : List Lifetime) → map elide_occurrence (appearing role ls) ≡ occurring (elide_role role) ls
appearing_same role [] = refl
appearing_same role (l ∷ ls) = ap (λ os. record { lifetime = l; role = elide_role role } ∷ os) (appearing_same role ls)

own_same : (met : Bool) (ls : List Lifetime) → map elide_occurrence (own_occurrences met ls) ≡ own_told met ls
own_same true ls = refl
own_same false ls = appearing_same (Elides Own) ls

path_same : (is_self met : Bool) (role : AppearanceRole) (ls : List Lifetime) → map elide_occurrence (path_occurrences is_self met role ls) ≡ path_told is_self met (elide_role role) ls
path_same true met role ls = own_same met ls
path_same false met role ls = appearing_same role ls

returned_same : (is_self met : Bool) (ls : List Lifetime) → map elide_occurrence (returned_occurrences is_self met ls) ≡ returned_told is_self met ls
returned_same true met ls = own_same met ls
returned_same false met ls = refl

pub use_same : (met : Bool) (part : Section) (u : Use) → map elide_occurrence (use_occurrences met (part, u)) ≡ use_told met (phase_of part) u
use_same met (Usual (Using role)) u = path_same (is_own_use u) met (Elides role) (lifetimes_used u)
use_same met (Usual Returning) u = returned_same (is_own_use u) met (lifetimes_used u)
use_same met (Usual Defining) u = refl
use_same met TraitReturn u = path_same (is_own_use u) met Neither (lifetimes_used u)

pub meets_same : (part : Section) (u : Use) → meets_self (part, u) ≡ phase_meets (phase_of part) u
meets_same (Usual (Using role)) u = refl
meets_same (Usual Returning) u = refl
meets_same (Usual Defining) u = refl
meets_same TraitReturn u = refl
