-- OutStructSlice: a visited type is a slice of structs that only go out.
use Rattle.std.specs.Prelude.{◌≡◌, ℕ, Some, slice_get}
use Rattle.hir_context.specs.Lookups.{OutputStruct}
use Rattle.hir_context.specs.declared.parts.Definitions.{Definitions}
use Rattle.hir_ids.specs.declared.ids.TypeId.TheVariants as type
use Rattle.hir_validation.specs.WholeTypes.{Whole, Slice}

pub data OutStructSlice (defs : Definitions) : Whole → Type 0 where
  out_structs : (number : ℕ) (def : OutputStruct) → slice_get defs.out_structs.defs number ≡ Some def
      → OutStructSlice defs (Slice (Some (type.OutStruct number)))
