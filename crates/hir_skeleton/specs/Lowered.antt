-- The skeletons of types as backends see them. Structs are known by their ids.
use Rattle.std.specs.Prelude.{ℕ, List, [], ◌∷◌, ◌++◌, Option, Some, None, cond, map}
use Rattle.hir_life.specs.declared.maybe_static.MaybeStatic.{MaybeStatic}
use Rattle.hir_ids.specs.declared.ids.TypeId.{TypeId}
use Rattle.hir_ids.specs.declared.ids.TypeId.TheVariants as type
use Rattle.hir_ids.specs.declared.owners.Borrow.{Borrow}
use Rattle.hir_ids.specs.declared.owners.MaybeOwn.{MaybeOwn}
use Rattle.hir_types.specs.Slices.{at_most_one, lifetime_of, slice_own}
use Rattle.hir_types.specs.SelfTypes.{FieldType}
use Rattle.hir_types.specs.declared.self_types.SelfType.{SelfType}
use Rattle.hir_types.specs.declared.self_types.SelfType.TheVariants as receiver
use Rattle.hir_types.specs.declared.slices.Slice.{Slice}
use Rattle.hir_types.specs.declared.slices.Slice.TheVariants as slice
use Rattle.hir_types.specs.declared.types.HirType.{HirType, fold-HirType}
use Rattle.hir_types.specs.declared.types.HirType.TheOpen.{HirType-F}
use Rattle.hir_definitions.specs.declared.definitions.StructDef.{StructDef}
use Rattle.hir_context.specs.Lookups.{InputStruct}
use Rattle.hir_skeleton.specs.Skeletons.{Skeleton, Nothing, Carrier, Struct}

-- a carrier of these lifetimes; without any, nothing can be borrowed through it
abbrev pub carrier_of : {K : Type 0} → List (MaybeStatic ℕ) → Skeleton K
carrier_of [] = Nothing
carrier_of (l ∷ ls) = Carrier (l ∷ ls)

-- an opaque with these lifetimes: it carries its borrow, and then them; a boxed one is nothing
abbrev pub opaque_skeleton : {K : Type 0} → List (MaybeStatic ℕ) → Option Borrow → Skeleton K
opaque_skeleton lifetimes None = Nothing
opaque_skeleton lifetimes (Some borrow) = Carrier (borrow.lifetime ∷ lifetimes)

-- over the lifetimes that a path gives its struct, and how the struct is held
module _ {P C O I S T : Type 0} (given : S → List (MaybeStatic ℕ)) (held : S → MaybeOwn) where
  -- the lifetimes of the elements: that of the reference, where they are behind one, and then those that they give
  -- their definition
  abbrev pub element_carries : Slice P C O I S T → List (MaybeStatic ℕ)
  element_carries (slice.Struct _ path) = at_most_one (lifetime_of (held path)) ++ given path
  element_carries (slice.Opaque _ path) = path.owner.lifetime ∷ path.lifetimes
  element_carries _ = []

  -- the lifetime of the slice, and then those of its elements: of a list of strings there are none
  abbrev pub slice_carries : Slice P C O I S T → List (MaybeStatic ℕ)
  slice_carries s = at_most_one (slice_own s) ++ element_carries s

-- over how an opaque is borrowed, and of a path to a struct which it names, the lifetimes that it gives it, and how it
-- is held
module _ {P C O I S T : Type 0} (borrow : O → Option Borrow) (struct : S → TypeId) (given : S → List (MaybeStatic ℕ)) (held : S → MaybeOwn) where
  -- a type, from what is inside an option
  abbrev pub skeleton_step : HirType-F P C O I S T (Skeleton TypeId) → Skeleton TypeId
  skeleton_step (HirType-F.Primitive _) = Nothing
  skeleton_step (HirType-F.Opaque path) = opaque_skeleton path.lifetimes (borrow path.owner)
  skeleton_step (HirType-F.Struct path) = Struct (struct path) (given path)
  skeleton_step (HirType-F.ImplTrait _) = Nothing
  skeleton_step (HirType-F.Enum _) = Nothing
  skeleton_step (HirType-F.Slice s) = carrier_of (slice_carries given held s)
  skeleton_step (HirType-F.Callback _) = Nothing
  skeleton_step (HirType-F.DiplomatOption inside) = inside

  abbrev pub skeleton_of : HirType P C O I S T → Skeleton TypeId
  skeleton_of t = fold-HirType _ _ _ _ _ _ (Skeleton TypeId) skeleton_step t

  -- the fields of a struct, in order: a disabled one has none
  abbrev pub fields_of_struct : StructDef P C O I S T → List (Skeleton TypeId)
  fields_of_struct def = cond def.attrs.disable [] (map (λ field. skeleton_of field.ty) def.fields)

-- the type of a field, and of what stands anywhere: opaques are borrowed
abbrev pub field_skeleton : FieldType → Skeleton TypeId
field_skeleton = skeleton_of Some (λ path. type.Struct path.tcx_id) (λ path. path.lifetimes) (λ path. path.owner)

-- the fields of a struct that may stand in inputs
abbrev pub input_fields : InputStruct → List (Skeleton TypeId)
input_fields =
    fields_of_struct Some (λ path. type.Struct path.tcx_id) (λ path. path.lifetimes) (λ path. path.owner)

-- a receiver
abbrev pub receiver_skeleton : SelfType → Skeleton TypeId
receiver_skeleton (receiver.Opaque path) = opaque_skeleton path.lifetimes (Some path.owner)
receiver_skeleton (receiver.Struct path) = Struct (type.Struct path.tcx_id) path.lifetimes
receiver_skeleton (receiver.Enum _) = Nothing
