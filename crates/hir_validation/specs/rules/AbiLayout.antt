-- AbiLayout: a struct that is marked `abi_compatible` has a lifetime, or a field that is no primitive, no enum and no struct with that mark.
use Rattle.std.specs.Prelude.{◌≡◌, ℕ, List, true, Some, slice_get}
use Rattle.std.specs.List.{Contains}
use Rattle.hir_context.specs.Lookups.{InputStruct}
use Rattle.hir_context.specs.declared.parts.Definitions.{Definitions}
use Rattle.hir_ids.specs.declared.ids.TypeId.TheVariants as type
use Rattle.hir_ids.specs.declared.owners.MaybeOwn.{MaybeOwn}
use Rattle.hir_life.specs.declared.bounds.BoundedLifetime.{BoundedLifetime}
use Rattle.hir_life.specs.declared.maybe_static.MaybeStatic.{MaybeStatic}
use Rattle.hir_validation.specs.Structs.{LoweredField}
use Rattle.hir_validation.specs.WholeTypes.{Whole, Primitive, Enum, Struct, field_whole}

-- types that a field of such a struct may have
pub data KeepsLayout (defs : Definitions) : Whole → Type 0 where
  primitive : KeepsLayout defs Primitive
  enum : (number : ℕ) → KeepsLayout defs (Enum number)
  struct : (number : ℕ) (held : MaybeOwn) (given : List (MaybeStatic ℕ)) (def : InputStruct) → slice_get defs.structs.defs number ≡ Some def
      → def.attrs.abi_compatible ≡ true → KeepsLayout defs (Struct (type.Struct number) held given)

-- one that has a lifetime, disabled or not; and one with such a field: a disabled one has none
pub data AbiLayout (defs : Definitions) (def : InputStruct) : Type 0 where
  lifetime : def.attrs.abi_compatible ≡ true → (l : BoundedLifetime) → Contains def.lifetimes.bounds l → AbiLayout defs def
  field : def.attrs.abi_compatible ≡ true → (f : LoweredField) → Contains def.fields f → ¬ (KeepsLayout defs (field_whole f.ty)) → AbiLayout defs def
