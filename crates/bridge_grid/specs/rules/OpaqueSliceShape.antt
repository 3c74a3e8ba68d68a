-- OpaqueSliceShape: a slice of references to opaques comes in, and neither it nor they may be written
-- through or live for 'static.
use Rattle.std.specs.Prelude.{◌≡◌, ◌⊎◌, ℕ, Option, Some, None}
use Rattle.bridge_decl.specs.declared.types.Mutability.{Mutability}
use Rattle.bridge_decl.specs.declared.types.Mutability.TheVariants.{Mutable}
use Rattle.bridge_decl.specs.declared.types.StdlibOrDiplomat.{StdlibOrDiplomat}
use Rattle.hir_life.specs.declared.maybe_static.MaybeStatic.TheVariants.{Static}
use Rattle.hir_ids.specs.declared.owners.Borrow.{Borrow}
use Rattle.bridge_rules.specs.declared.position.Position.{Position}
use Rattle.bridge_rules.specs.declared.shape.Element.TheVariants as element
use Rattle.bridge_rules.specs.declared.shape.Shape.{Shape}
use Rattle.bridge_rules.specs.declared.shape.Shape.TheVariants as shape
use Rattle.bridge_grid.specs.Ways.{ComesIn, GoesOut}

-- it may be written through, or lives for 'static
abbrev pub IsFixed : Borrow → Type 0
IsFixed b = (b.mutability ≡ Mutable) ⊎ (b.lifetime ≡ Static)

-- an owned slice has no borrow
abbrev pub IsFixedSlice : Option Borrow → Type 0
IsFixedSlice (Some b) = IsFixed b
IsFixedSlice None = ⊥

pub data OpaqueSliceShape (at : Position) : Shape → Type 0 where
  going_out : (s : Option Borrow) (b : Borrow) (id : ℕ) (mark : Mutability) → GoesOut at
      → OpaqueSliceShape at (shape.Slice s (element.OpaqueReference b id mark))
  coming_in : (s : Option Borrow) (b : Borrow) (id : ℕ) (mark : Mutability) → ComesIn at
      → IsFixedSlice s ⊎ IsFixed b → OpaqueSliceShape at (shape.Slice s (element.OpaqueReference b id mark))
  options_going_out : (s : Option Borrow) (b : Borrow) (id : ℕ) (d : StdlibOrDiplomat) → GoesOut at
      → OpaqueSliceShape at (shape.Slice s (element.OpaqueOption b id d))
  options_coming_in : (s : Option Borrow) (b : Borrow) (id : ℕ) (d : StdlibOrDiplomat) → ComesIn at
      → IsFixedSlice s ⊎ IsFixed b → OpaqueSliceShape at (shape.Slice s (element.OpaqueOption b id d))
