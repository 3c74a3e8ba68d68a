-- What a type is as a whole: nothing inside an option counts. In the example of the crate's head `of` is an opaque
-- behind a reference.
use Rattle.std.specs.Prelude.{ℕ, List, Option, None, Some, option_map}
use Rattle.hir_ids.specs.Owners.{lent}
use Rattle.hir_ids.specs.declared.ids.TypeId.{TypeId}
use Rattle.hir_ids.specs.declared.ids.TypeId.TheVariants as type
use Rattle.hir_ids.specs.declared.owners.Borrow.{Borrow}
use Rattle.hir_ids.specs.declared.owners.MaybeOwn.{MaybeOwn}
use Rattle.hir_ids.specs.declared.owners.MaybeOwn.TheVariants as owner
use Rattle.hir_life.specs.declared.maybe_static.MaybeStatic.{MaybeStatic}
use Rattle.hir_types.specs.Named.{ReturnedType}
use Rattle.hir_types.specs.Paths.{returnable_id, returnable_lifetimes}
use Rattle.hir_types.specs.SelfTypes.{FieldType}
use Rattle.hir_types.specs.declared.callbacks.Callback.{Callback as HeldCallback}
use Rattle.hir_types.specs.declared.callbacks.NoCallback.{NoCallback}
use Rattle.hir_types.specs.declared.paths.StructPath.{StructPath}
use Rattle.hir_types.specs.declared.paths.TraitPath.{TraitPath}
use Rattle.hir_types.specs.declared.positions.CallbackReturn.{CallbackReturn}
use Rattle.hir_types.specs.declared.positions.InputOnly.{InputOnly}
use Rattle.hir_types.specs.declared.returns.ReturnType.{ReturnType}
use Rattle.hir_types.specs.declared.slices.Slice.{Slice as HeldSlice}
use Rattle.hir_types.specs.declared.slices.Slice.TheVariants as slice
use Rattle.hir_types.specs.declared.types.HirType.{HirType, out-HirType}
use Rattle.hir_types.specs.declared.types.HirType.TheOpen.{HirType-F}

-- what a callback gives back, and the types in that
abbrev pub CalledType : Type 0
CalledType = HirType CallbackReturn NoCallback Borrow ℕ StructPath TraitPath

abbrev pub CallbackOutput : Type 0
CallbackOutput = ReturnType CallbackReturn NoCallback Borrow ℕ StructPath TraitPath

pub data Whole : Type 0 where
  Primitive : Whole
  Enum : ℕ → Whole
  -- with the lifetime of its borrow, where it has one, and those that it gives its definition
  Opaque : ℕ → Option (MaybeStatic ℕ) → List (MaybeStatic ℕ) → Whole
  -- with how it is held, and the lifetimes that it gives its definition
  Struct : TypeId → MaybeOwn → List (MaybeStatic ℕ) → Whole
  -- with the definition of its elements, where they have one
  Slice : Option TypeId → Whole
  -- with what it gives back
  Callback : CallbackOutput → Whole
  Other : Whole

-- a callback, where there is one
abbrev pub callback_whole : Option HeldCallback → Whole
callback_whole None = Other
callback_whole (Some callback) = Callback callback.output

-- the definition of the elements of a slice, over the struct that a path names
abbrev pub slice_definition : {P C O I S T : Type 0} → (S → TypeId) → HeldSlice P C O I S T → Option TypeId
slice_definition struct (slice.Struct _ path) = Some (struct path)
slice_definition struct (slice.Enum _ path) = Some (type.Enum path.tcx_id)
slice_definition struct (slice.Opaque _ path) = Some (type.Opaque path.tcx_id)
slice_definition struct _ = None

-- over the borrow of an opaque; of a path to a struct which it names, the lifetimes that it gives it, and how it is held; and the callback
module _ {P C O I S T : Type 0} (borrow : O → Option Borrow) (struct : S → TypeId) (given : S → List (MaybeStatic ℕ)) (held : S → MaybeOwn)
    (callback : C → Option HeldCallback)
  where
    abbrev pub whole_layer : HirType-F P C O I S T (HirType P C O I S T) → Whole
    whole_layer (HirType-F.Primitive _) = Primitive
    whole_layer (HirType-F.Opaque path) = Opaque path.tcx_id (option_map (λ b. b.lifetime) (borrow path.owner)) path.lifetimes
    whole_layer (HirType-F.Struct path) = Struct (struct path) (held path) (given path)
    whole_layer (HirType-F.Enum path) = Enum path.tcx_id
    whole_layer (HirType-F.Slice s) = Slice (slice_definition struct s)
    whole_layer (HirType-F.Callback c) = callback_whole (callback c)
    whole_layer _ = Other

    abbrev pub whole_type : HirType P C O I S T → Whole
    whole_type t = whole_layer (out-HirType _ _ _ _ _ _ t)

-- ---- where types stand

abbrev pub TakenType : Type 0
TakenType = HirType InputOnly HeldCallback Borrow ℕ StructPath TraitPath

-- where opaques are borrowed, and structs may come in
abbrev pub input_whole : {P C T : Type 0} → (C → Option HeldCallback) → HirType P C Borrow ℕ StructPath T → Whole
input_whole = whole_type Some (λ path. type.Struct path.tcx_id) (λ path. path.lifetimes) (λ path. path.owner)

abbrev pub param_whole : TakenType → Whole
param_whole = input_whole Some

abbrev pub field_whole : FieldType → Whole
field_whole = input_whole (λ _. None)

abbrev pub called_whole : CalledType → Whole
called_whole = input_whole (λ _. None)

abbrev pub returned_whole : ReturnedType → Whole
returned_whole = whole_type lent returnable_id returnable_lifetimes (λ _. owner.Own) (λ _. None)
