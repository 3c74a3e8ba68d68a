-- ZeroSize: a struct without fields doesn't come in, and goes out in options and results alone.
use Rattle.std.specs.Prelude.{◌≡◌, ℕ}
use Rattle.bridge_rules.specs.declared.position.Position.{Position}
use Rattle.bridge_rules.specs.declared.shape.Shape.{Shape}
use Rattle.bridge_rules.specs.declared.shape.Shape.TheVariants as shape
use Rattle.bridge_rules.specs.declared.shape.Value.TheVariants as value
use Rattle.bridge_grid.specs.declared.part.Part.{Part}
use Rattle.bridge_grid.specs.declared.part.Part.TheVariants.{Whole}
use Rattle.bridge_grid.specs.Ways.{ComesIn, GoesOut}

-- a struct or an out-struct without fields
pub data IsEmpty : Shape → Type 0 where
  as_struct : (id : ℕ) → IsEmpty (shape.Value (value.Empty id))
  as_out_struct : (id : ℕ) → IsEmpty (shape.Value (value.EmptyOut id))

pub data ZeroSize (at : Position) (part : Part) (s : Shape) : Type 0 where
  coming_in : IsEmpty s → ComesIn at → ZeroSize at part s
  going_out : IsEmpty s → GoesOut at → part ≡ Whole → ZeroSize at part s
