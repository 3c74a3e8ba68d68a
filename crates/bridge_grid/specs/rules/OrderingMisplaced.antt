-- OrderingMisplaced: `Ordering` is returned by methods and given to callbacks, and stands nowhere else.
use Rattle.bridge_rules.specs.declared.position.Position.{Position}
use Rattle.bridge_rules.specs.declared.position.Position.TheVariants as at
use Rattle.bridge_rules.specs.declared.shape.Shape.{Shape}
use Rattle.bridge_rules.specs.declared.shape.Shape.TheVariants as shape

pub data OrderingMisplaced : Position → Shape → Type 0 where
  in_field : OrderingMisplaced at.Field shape.Ordering
  in_parameter : OrderingMisplaced at.Param shape.Ordering
  from_callback : OrderingMisplaced at.CallbackReturn shape.Ordering
  in_out_field : OrderingMisplaced at.OutField shape.Ordering
