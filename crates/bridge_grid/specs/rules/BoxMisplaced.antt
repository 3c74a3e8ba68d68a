-- BoxMisplaced: a box is of an opaque, and goes out.
use Rattle.std.specs.Prelude.{ℕ}
use Rattle.bridge_rules.specs.declared.position.Position.{Position}
use Rattle.bridge_rules.specs.declared.shape.Shape.{Shape}
use Rattle.bridge_rules.specs.declared.shape.Shape.TheVariants as shape
use Rattle.bridge_grid.specs.Ways.{ComesIn}

pub data BoxMisplaced (at : Position) : Shape → Type 0 where
  other : BoxMisplaced at shape.OtherBox
  coming_in : (id : ℕ) → ComesIn at → BoxMisplaced at (shape.OpaqueBox id)
