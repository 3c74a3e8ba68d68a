-- The slices among the inputs of a method, at every depth, each with the one lifetime that it is lent for. The example is
--     pub struct Words<'w> { first: DiplomatStrSlice<'w> }
--     pub struct Pair<'u, 'v> { left: Words<'u>, right: DiplomatOption<Words<'v>>, page: &'v Page }
--     fn read<'a, 'b>(pair: Pair<'b, 'static>, mark: &'a DiplomatStr, rest: &DiplomatStr) -> Box<Page>
-- which has four: `pair.left.first` with 'b, `pair.right.first` with 'static, `mark` with 'a, and `rest` with a lifetime that
-- has no name.
use Rattle.std.specs.Prelude.{◌<◌, ◌⊎◌, ℕ, List, [], ◌∷◌, ◌++◌, Bool, cond, IsTrue, length, map}
use Rattle.std.specs.List.{Contains}
use Rattle.hir_life.specs.declared.maybe_static.MaybeStatic.TheVariants.{NonStatic}
use Rattle.hir_ids.specs.declared.ids.TypeId.{TypeId}
use Rattle.hir_ids.specs.declared.ids.TypeId.TheVariants as type
use Rattle.hir_ids.specs.declared.owners.Borrow.{Borrow}
use Rattle.hir_types.specs.Named.{lifetimes_named}
use Rattle.hir_types.specs.SelfTypes.{FieldType}
use Rattle.hir_types.specs.Slices.{at_most_one, slice_lifetime}
use Rattle.hir_types.specs.declared.callbacks.Callback.{Callback}
use Rattle.hir_types.specs.declared.paths.StructPath.{StructPath}
use Rattle.hir_types.specs.declared.paths.TraitPath.{TraitPath}
use Rattle.hir_types.specs.declared.positions.InputOnly.{InputOnly}
use Rattle.hir_types.specs.declared.self_types.SelfType.{SelfType}
use Rattle.hir_types.specs.declared.self_types.SelfType.TheVariants as receiver
use Rattle.hir_types.specs.declared.types.HirType.{HirType, fold-HirType}
use Rattle.hir_types.specs.declared.types.HirType.TheOpen.{HirType-F}
use Rattle.hir_definitions.specs.declared.methods.Method.{Method}
use Rattle.hir_mentions.specs.Mentions.{where_any}
use Rattle.hir_context.specs.Lookups.{InputStruct}
use Rattle.hir_context.specs.declared.parts.Definitions.{Definitions}
use Rattle.hir_skeleton.specs.Skeletons.{Skeleton, Nothing, Struct}
use Rattle.hir_skeleton.specs.Leaves.{DeepLeaf, from_fields, in_field, input_leaves}
use Rattle.hir_skeleton.specs.Lowered.{carrier_of}
use Rattle.hir_skeleton.specs.Inputs.{input_struct}

-- what of a type counts where only slices do: a slice carries its lifetime, where it has one, and nothing of its elements; a
-- struct, by value or by reference, leads on to its fields; an opaque is nothing
module _ {P C O I T : Type 0} where
  -- a type, from what is inside an option
  abbrev pub slices_step : HirType-F P C O I StructPath T (Skeleton TypeId) → Skeleton TypeId
  slices_step (HirType-F.Struct path) = Struct (type.Struct path.tcx_id) path.lifetimes
  slices_step (HirType-F.Slice s) = carrier_of (at_most_one (slice_lifetime s))
  slices_step (HirType-F.DiplomatOption inside) = inside
  slices_step _ = Nothing

  abbrev pub slices_of : HirType P C O I StructPath T → Skeleton TypeId
  slices_of t = fold-HirType _ _ _ _ _ _ (Skeleton TypeId) slices_step t

-- the type of a field
abbrev pub field_slices : FieldType → Skeleton TypeId
field_slices = slices_of

-- the fields of a struct, in order: a disabled one has none
abbrev pub struct_slices : InputStruct → List (Skeleton TypeId)
struct_slices def = cond def.attrs.disable [] (map (λ field. field_slices field.ty) def.fields)

abbrev pub slices_in : Definitions → TypeId → List (Skeleton TypeId)
slices_in defs id = where_any struct_slices (input_struct defs id)

-- a parameter, and a receiver
abbrev pub param_slices : HirType InputOnly Callback Borrow ℕ StructPath TraitPath → Skeleton TypeId
param_slices = slices_of

abbrev pub receiver_slices : SelfType → Skeleton TypeId
receiver_slices (receiver.Struct path) = Struct (type.Struct path.tcx_id) path.lifetimes
receiver_slices _ = Nothing

-- the inputs of a method in order
abbrev pub slice_inputs : Method → List (Skeleton TypeId)
slice_inputs m = where_any (λ r. receiver_slices r.ty ∷ []) m.param_self ++ map (λ param. param_slices param.ty) m.params

-- all slices of the inputs that have a lifetime, at every depth: where each stands, and its lifetime in terms of the method
abbrev pub slice_leaves : Definitions → Method → List DeepLeaf
slice_leaves defs m = from_fields in_field (input_leaves (slices_in defs) m.lifetime_env.count) (slice_inputs m)

-- some slice among the inputs of a method has this lifetime of the method: 'a, 'b, and the one of `rest`
pub record HasSlice (defs : Definitions) (m : Method) (t : ℕ) : Type 0 where
  pub slice : DeepLeaf
  pub among : Contains (slice_leaves defs m) slice
  pub carries : Contains slice.carried (NonStatic t)

-- some slice has it, and it is a named lifetime of the method: 'a and 'b
abbrev pub NamesSlice : Definitions → Method → ℕ → Type 0
NamesSlice defs m t = (t < length m.lifetime_env.bounds) × HasSlice defs m t

-- the lifetimes of which something is kept: those that the return of the method names, and where slices are to be included those
-- that name a slice
abbrev pub IsKept : Definitions → Method → Bool → ℕ → Type 0
IsKept defs m with_slices t = Contains (lifetimes_named m.output) (NonStatic t) ⊎ (IsTrue with_slices × NamesSlice defs m t)
