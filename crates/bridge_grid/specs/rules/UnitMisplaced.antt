-- UnitMisplaced: `()` is a return, or a part of a returned result.
use Rattle.bridge_rules.specs.declared.shape.Shape.{Shape}
use Rattle.bridge_rules.specs.declared.shape.Shape.TheVariants as shape

pub data UnitMisplaced : Shape → Type 0 where
  unit : UnitMisplaced shape.Unit
