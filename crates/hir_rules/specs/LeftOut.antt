-- Lifetimes that are left out. In `fn next(self, at: Place) -> &Page<'b>`, where `Place` has one
-- lifetime, the use of `Place` leaves it out, and so does the reference that is returned: of the two the latter is elided.
use Rattle.std.specs.Prelude.{◌≡◌, List, ◌∷◌, ◌++◌, false, Some, None}
use Rattle.std.specs.List.{Contains}
use Rattle.bridge_decl.specs.declared.lifetimes.Lifetime.TheVariants as written
use Rattle.hir_elide.specs.Generics.{filled}
use Rattle.hir_elide.specs.Phases.{Returning}
use Rattle.hir_number.specs.Occurrences.{is_own_use}
use Rattle.hir_number.specs.Signatures.{Placed, Section, Usual}
use Rattle.hir_number.specs.Uses.{Use, One, Path}

-- the use stands in that part of a signature or a definition, and after these
pub record StandsAfter (uses before : List Placed) (part : Section) (it : Use) : Type 0 where
  pub after : List Placed
  pub listed : uses ≡ before ++ (part, it) ∷ after

-- a lifetime of the use is anonymous, or isn't written: its own, or one of those that the definition of its path has
abbrev pub LeavesOut : Use → Type 0
LeavesOut (One l) = l ≡ written.Anonymous
LeavesOut (Path is_self path None) = ⊥
LeavesOut (Path is_self path (Some found)) = Contains (filled path.lifetimes found.count) written.Anonymous

-- so in the return, after these, and not as `Self`
pub record Elides (uses before : List Placed) : Type 0 where
  pub it : Use
  pub stands : StandsAfter uses before (Usual Returning) it
  pub other : is_own_use it ≡ false
  pub out : LeavesOut it
