-- ResultMisplaced: a result is a whole return.
use Rattle.bridge_rules.specs.declared.shape.Shape.{Shape}
use Rattle.bridge_rules.specs.declared.shape.Shape.TheVariants as shape

pub data ResultMisplaced : Shape → Type 0 where
  result : ResultMisplaced shape.Result
