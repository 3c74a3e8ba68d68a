-- CallbackReturn: callbacks must be able to fail, and a visited type is one that can't tell an error of the interface, or a method of a trait can't.
use Rattle.std.specs.Prelude.{◌≡◌, ℕ, Bool, true, Some, slice_get}
use Rattle.std.specs.List.{Contains}
use Rattle.hir_context.specs.declared.parts.Definitions.{Definitions}
use Rattle.hir_definitions.specs.declared.definitions.EnumDef.{EnumDef}
use Rattle.hir_definitions.specs.declared.definitions.EnumVariant.{EnumVariant}
use Rattle.hir_types.specs.Returns.{error_of}
use Rattle.hir_validation.specs.WholeTypes.{CallbackOutput, CalledType, Enum, called_whole}

-- it gives back a result whose error is an enum with a variant that is marked `ffi_error`
pub record CanFail (defs : Definitions) (output : CallbackOutput) : Type 0 where
  pub error : CalledType
  pub fails : error_of output ≡ Some error
  pub number : ℕ
  pub is_enum : called_whole error ≡ Enum number
  pub def : EnumDef
  pub found : slice_get defs.enums.defs number ≡ Some def
  pub variant : EnumVariant
  pub among : Contains def.variants variant
  pub marked : variant.attrs.ffi_error ≡ true

-- for a backend whose callbacks must be able to fail, or may not
pub record CallbackReturn (must_fail : Bool) (defs : Definitions) (output : CallbackOutput) : Type 0 where
  pub required : must_fail ≡ true
  pub can_not : ¬ (CanFail defs output)
