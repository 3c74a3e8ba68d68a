-- FunctionMisplaced: a function is a parameter.
use Rattle.bridge_rules.specs.declared.position.Position.{Position}
use Rattle.bridge_rules.specs.declared.position.Position.TheVariants as at
use Rattle.bridge_rules.specs.declared.shape.Shape.{Shape}
use Rattle.bridge_rules.specs.declared.shape.Shape.TheVariants as shape

pub data FunctionMisplaced : Position → Shape → Type 0 where
  in_field : FunctionMisplaced at.Field shape.Function
  from_callback : FunctionMisplaced at.CallbackReturn shape.Function
  to_callback : FunctionMisplaced at.CallbackParam shape.Function
  in_out_field : FunctionMisplaced at.OutField shape.Function
  returned : FunctionMisplaced at.Return shape.Function
