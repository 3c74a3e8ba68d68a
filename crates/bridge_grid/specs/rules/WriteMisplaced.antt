-- WriteMisplaced: a writer is the last parameter.
use Rattle.bridge_rules.specs.declared.shape.Shape.{Shape}
use Rattle.bridge_rules.specs.declared.shape.Shape.TheVariants as shape

pub data WriteMisplaced : Shape → Type 0 where
  writer : WriteMisplaced shape.Writer
