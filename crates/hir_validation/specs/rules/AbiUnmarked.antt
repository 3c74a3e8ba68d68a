-- AbiUnmarked: a visited type is a slice of structs or enums that aren't marked `abi_compatible`.
use Rattle.std.specs.Prelude.{◌≡◌, ℕ, List, false, Some, slice_get}
use Rattle.hir_context.specs.Lookups.{InputStruct}
use Rattle.hir_context.specs.declared.parts.Definitions.{Definitions}
use Rattle.hir_definitions.specs.declared.definitions.EnumDef.{EnumDef}
use Rattle.hir_ids.specs.declared.ids.TypeId.TheVariants as type
use Rattle.hir_validation.specs.WholeTypes.{Whole, Slice}

-- of that name
pub data AbiUnmarked (defs : Definitions) : Whole → List ℕ → Type 0 where
  structs : (number : ℕ) (def : InputStruct) → slice_get defs.structs.defs number ≡ Some def → def.attrs.abi_compatible ≡ false
      → AbiUnmarked defs (Slice (Some (type.Struct number))) def.name.0
  enums : (number : ℕ) (def : EnumDef) → slice_get defs.enums.defs number ≡ Some def → def.attrs.abi_compatible ≡ false
      → AbiUnmarked defs (Slice (Some (type.Enum number))) def.name.0
