-- MutOpaqueUnmarked: a reference that comes in and may be written through is to an opaque that is marked as mutable.
use Rattle.std.specs.Prelude.{◌≡◌, ℕ, Option}
use Rattle.bridge_decl.specs.declared.types.Mutability.{Mutability}
use Rattle.bridge_decl.specs.declared.types.Mutability.TheVariants.{Mutable, Immutable}
use Rattle.hir_ids.specs.declared.owners.Borrow.{Borrow}
use Rattle.bridge_rules.specs.declared.position.Position.{Position}
use Rattle.bridge_rules.specs.declared.shape.Element.TheVariants as element
use Rattle.bridge_rules.specs.declared.shape.Shape.{Shape}
use Rattle.bridge_rules.specs.declared.shape.Shape.TheVariants as shape
use Rattle.bridge_grid.specs.Ways.{ComesIn}

-- the reference may be written through, and the opaque isn't marked
abbrev pub IsUnmarked : Borrow → Mutability → Type 0
IsUnmarked b mark = (b.mutability ≡ Mutable) × (mark ≡ Immutable)

pub data MutOpaqueUnmarked (at : Position) : Shape → Type 0 where
  reference : (b : Borrow) (id : ℕ) (mark : Mutability) → ComesIn at → IsUnmarked b mark
      → MutOpaqueUnmarked at (shape.OpaqueReference b id mark)
  of_slice : (s : Option Borrow) (b : Borrow) (id : ℕ) (mark : Mutability) → ComesIn at → IsUnmarked b mark
      → MutOpaqueUnmarked at (shape.Slice s (element.OpaqueReference b id mark))
