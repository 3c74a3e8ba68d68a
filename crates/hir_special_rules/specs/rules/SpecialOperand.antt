-- SpecialOperand: a comparison's operand, its first parameter, isn't the same as its receiver.
use Rattle.std.specs.Prelude.{◌≡◌, ◌∷◌, List, Some, false}
use Rattle.hir_attrs.specs.declared.special.kind.SpecialKind.{SpecialKind}
use Rattle.hir_attrs.specs.declared.special.kind.SpecialKind.TheVariants as kind
use Rattle.hir_definitions.specs.declared.methods.Method.{Method}
use Rattle.hir_definitions.specs.declared.methods.Param.{Param}
use Rattle.hir_definitions.specs.declared.methods.ParamSelf.{ParamSelf}
use Rattle.hir_special.specs.Operands.{is_same}

pub record SpecialOperand (it : SpecialKind) (method : Method) : Type 0 where
  pub compares : it ≡ kind.Comparison
  pub receiver : ParamSelf
  pub is_receiver : method.param_self ≡ Some receiver
  pub operand : Param
  pub others : List Param
  pub is_operand : method.params ≡ operand ∷ others
  pub differs : is_same receiver.ty operand.ty ≡ false
