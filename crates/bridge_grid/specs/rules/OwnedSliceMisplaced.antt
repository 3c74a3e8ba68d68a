-- OwnedSliceMisplaced: an owned slice is a field or a parameter; one of bytes is also returned, but not as an error.
use Rattle.std.specs.Prelude.{◌≡◌, true, false}
use Rattle.bridge_decl.specs.declared.types.PrimitiveType.{PrimitiveType}
use Rattle.bridge_decl.specs.declared.types.StringEncoding.{StringEncoding}
use Rattle.bridge_rules.specs.declared.position.Position.{Position}
use Rattle.bridge_rules.specs.declared.position.Position.TheVariants as at
use Rattle.bridge_rules.specs.declared.shape.FlatSlice.TheVariants as flat
use Rattle.bridge_rules.specs.declared.shape.Shape.{Shape}
use Rattle.bridge_rules.specs.declared.shape.Shape.TheVariants as shape
use Rattle.bridge_grid.specs.declared.part.Part.{Part}
use Rattle.bridge_grid.specs.Asked.{is_byte, is_error}

-- a slice of bytes, and no error
abbrev pub IsBytes : PrimitiveType → Part → Type 0
IsBytes p part = (is_byte p ≡ true) × (is_error part ≡ false)

pub data OwnedSliceMisplaced : Position → Part → Shape → Type 0 where
  text_from_callback : (part : Part) (e : StringEncoding)
      → OwnedSliceMisplaced at.CallbackReturn part (shape.Flat (flat.OwnedStr e))
  text_to_callback : (part : Part) (e : StringEncoding)
      → OwnedSliceMisplaced at.CallbackParam part (shape.Flat (flat.OwnedStr e))
  text_in_out_field : (part : Part) (e : StringEncoding)
      → OwnedSliceMisplaced at.OutField part (shape.Flat (flat.OwnedStr e))
  text_returned : (part : Part) (e : StringEncoding)
      → OwnedSliceMisplaced at.Return part (shape.Flat (flat.OwnedStr e))
  from_callback : (part : Part) (p : PrimitiveType)
      → OwnedSliceMisplaced at.CallbackReturn part (shape.Flat (flat.OwnedPrimitives p))
  to_callback : (part : Part) (p : PrimitiveType)
      → OwnedSliceMisplaced at.CallbackParam part (shape.Flat (flat.OwnedPrimitives p))
  in_out_field : (part : Part) (p : PrimitiveType)
      → OwnedSliceMisplaced at.OutField part (shape.Flat (flat.OwnedPrimitives p))
  returned : (part : Part) (p : PrimitiveType) → ¬ IsBytes p part
      → OwnedSliceMisplaced at.Return part (shape.Flat (flat.OwnedPrimitives p))
