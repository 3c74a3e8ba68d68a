-- What is asked of a return.
use Rattle.std.specs.Prelude.{Option, Some, None, ⊤}
use Rattle.hir_ids.specs.declared.primitives.PrimitiveType.{PrimitiveType}
use Rattle.hir_types.specs.declared.returns.ReturnType.{ReturnType}
use Rattle.hir_types.specs.declared.returns.ReturnType.TheVariants as returned
use Rattle.hir_types.specs.declared.returns.SuccessType.{SuccessType}
use Rattle.hir_types.specs.declared.returns.SuccessType.TheVariants as success
use Rattle.hir_types.specs.declared.types.HirType.{HirType}
use Rattle.hir_types.specs.declared.writers.WriteType.TheVariants as writer

module _ {P C O I S T : Type 0} where
  -- something is written
  abbrev pub IsWritten : SuccessType P C O I S T → Type 0
  IsWritten (success.Write _) = ⊤
  IsWritten (success.OutType _) = ⊥
  IsWritten success.Unit = ⊥

  -- of what a list is written
  abbrev pub primitive_written : SuccessType P C O I S T → Option PrimitiveType
  primitive_written (success.Write (writer.Primitive p)) = Some p
  primitive_written _ = None

  -- the type of the value
  abbrev pub type_in : SuccessType P C O I S T → Option (HirType P C O I S T)
  type_in (success.OutType t) = Some t
  type_in _ = None

  -- what comes of success
  abbrev pub success_of : ReturnType P C O I S T → SuccessType P C O I S T
  success_of (returned.Infallible s) = s
  success_of (returned.Fallible s _) = s
  success_of (returned.Nullable s) = s

  -- the type of the error
  abbrev pub error_of : ReturnType P C O I S T → Option (HirType P C O I S T)
  error_of (returned.Fallible _ e) = e
  error_of _ = None

  -- neither a value nor anything that tells success from failure
  abbrev pub IsEmptySuccess : SuccessType P C O I S T → Type 0
  IsEmptySuccess (success.OutType _) = ⊥
  IsEmptySuccess _ = ⊤

  -- the function in C returns nothing
  abbrev pub GivesNothing : ReturnType P C O I S T → Type 0
  GivesNothing (returned.Infallible s) = IsEmptySuccess s
  GivesNothing _ = ⊥
