-- SliceElement: a slice is of named types, or of references to opaques, also in options.
use Rattle.std.specs.Prelude.{Option}
use Rattle.bridge_decl.specs.declared.types.PrimitiveType.{PrimitiveType}
use Rattle.hir_ids.specs.declared.owners.Borrow.{Borrow}
use Rattle.bridge_rules.specs.declared.shape.Element.TheVariants as element
use Rattle.bridge_rules.specs.declared.shape.Shape.{Shape}
use Rattle.bridge_rules.specs.declared.shape.Shape.TheVariants as shape
use Rattle.bridge_rules.specs.declared.shape.Value.TheVariants as value

pub data SliceElement : Shape → Type 0 where
  other : (b : Option Borrow) → SliceElement (shape.Slice b element.Other)
  primitive : (b : Option Borrow) (p : PrimitiveType)
      → SliceElement (shape.Slice b (element.Value (value.Primitive p)))
