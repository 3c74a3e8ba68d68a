-- OpaqueByValue: an opaque stands behind a pointer, also as an element of a slice.
use Rattle.std.specs.Prelude.{Option}
use Rattle.hir_ids.specs.declared.owners.Borrow.{Borrow}
use Rattle.bridge_rules.specs.declared.shape.Element.TheVariants as element
use Rattle.bridge_rules.specs.declared.shape.Shape.{Shape}
use Rattle.bridge_rules.specs.declared.shape.Shape.TheVariants as shape

pub data OpaqueByValue : Shape → Type 0 where
  named : OpaqueByValue shape.Opaque
  element_named : (b : Option Borrow) → OpaqueByValue (shape.Slice b element.Opaque)
