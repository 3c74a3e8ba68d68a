-- OptionShape: an option is of a reference to an opaque, of a value, or, where it comes in, of a slice; where it
-- goes out, of a box of an opaque.
use Rattle.std.specs.Prelude.{◌≡◌, ℕ}
use Rattle.bridge_decl.specs.declared.types.StdlibOrDiplomat.{StdlibOrDiplomat}
use Rattle.bridge_decl.specs.declared.types.StdlibOrDiplomat.TheVariants.{Diplomat}
use Rattle.bridge_decl.specs.declared.types.StringEncoding.{StringEncoding}
use Rattle.bridge_rules.specs.declared.position.Position.{Position}
use Rattle.bridge_rules.specs.declared.position.Position.TheVariants as at
use Rattle.bridge_rules.specs.declared.shape.FlatSlice.{FlatSlice}
use Rattle.bridge_rules.specs.declared.shape.Shape.{Shape}
use Rattle.bridge_rules.specs.declared.shape.Shape.TheVariants as shape
use Rattle.bridge_grid.specs.declared.part.Part.{Part}
use Rattle.bridge_grid.specs.declared.part.Part.TheVariants.{Whole}
use Rattle.bridge_grid.specs.Ways.{GoesOut}

pub data OptionShape : Position → Part → Shape → Type 0 where
  other : (at : Position) (part : Part) → OptionShape at part shape.OtherOption
  other_pointer : (at : Position) (part : Part) → OptionShape at part shape.OptionOfPointer
  strings : (at : Position) (part : Part) (e : StringEncoding) → GoesOut at
      → OptionShape at part (shape.OptionOfStrings e)
  slice : (at : Position) (part : Part) (f : FlatSlice) → GoesOut at
      → OptionShape at part (shape.OptionOfFlat f)
  box_in_field : (part : Part) (id : ℕ) (d : StdlibOrDiplomat)
      → OptionShape at.Field part (shape.OptionOfBox id d)
  box_in_parameter : (part : Part) (id : ℕ) (d : StdlibOrDiplomat)
      → OptionShape at.Param part (shape.OptionOfBox id d)
  -- at the top Diplomat's option is told as such
  box_from_callback : (part : Part) (id : ℕ) (d : StdlibOrDiplomat) → ¬ ((part ≡ Whole) × (d ≡ Diplomat))
      → OptionShape at.CallbackReturn part (shape.OptionOfBox id d)
