-- The inputs of a method among the definitions of a context: their skeletons, their leaves, and the names along a path.
-- In the example of `Skeletons` the only input is `mark`: its leaf has the path 0, 0, and the names `mark`, `page`.
use Rattle.std.specs.Prelude.{ℕ, Bool, true, false, List, [], ◌∷◌, ◌++◌, map, Option, Some, None, slice_get}
use Rattle.hir_ids.specs.declared.ids.TypeId.{TypeId}
use Rattle.hir_ids.specs.declared.ids.TypeId.TheVariants as type
use Rattle.hir_ids.specs.declared.owners.Borrow.{Borrow}
use Rattle.hir_types.specs.declared.callbacks.Callback.{Callback}
use Rattle.hir_types.specs.declared.paths.StructPath.{StructPath}
use Rattle.hir_types.specs.declared.paths.TraitPath.{TraitPath}
use Rattle.hir_types.specs.declared.positions.InputOnly.{InputOnly}
use Rattle.hir_types.specs.declared.types.HirType.{HirType, fold-HirType}
use Rattle.hir_types.specs.declared.types.HirType.TheOpen.{HirType-F}
use Rattle.hir_definitions.specs.declared.methods.Method.{Method}
use Rattle.hir_mentions.specs.Mentions.{where_any}
use Rattle.hir_context.specs.Lookups.{InputStruct}
use Rattle.hir_context.specs.declared.parts.Definitions.{Definitions}
use Rattle.hir_skeleton.specs.Skeletons.{Skeleton, Nothing, Carrier, Struct}
use Rattle.hir_skeleton.specs.Leaves.{DeepLeaf, from_fields, in_field, input_leaves}
use Rattle.hir_skeleton.specs.Lowered.{input_fields, receiver_skeleton, skeleton_of}

-- the struct of an id that may stand in inputs
abbrev pub input_struct : Definitions → TypeId → Option InputStruct
input_struct defs (type.Struct place) = slice_get defs.structs.defs place
input_struct defs _ = None

-- which fields a struct has
abbrev pub fields_in : Definitions → TypeId → List (Skeleton TypeId)
fields_in defs id = where_any input_fields (input_struct defs id)

-- a parameter of this type
abbrev pub param_skeleton : HirType InputOnly Callback Borrow ℕ StructPath TraitPath → Skeleton TypeId
param_skeleton = skeleton_of Some (λ path. type.Struct path.tcx_id) (λ path. path.lifetimes) (λ path. path.owner)

module _ {P C O I S T : Type 0} where
  -- whether it is a slice, or an option of one
  abbrev pub is_slice_type_step : HirType-F P C O I S T Bool → Bool
  is_slice_type_step (HirType-F.Slice _) = true
  is_slice_type_step (HirType-F.DiplomatOption inside) = inside
  is_slice_type_step _ = false

  abbrev pub is_slice_type : HirType P C O I S T → Bool
  is_slice_type t = fold-HirType _ _ _ _ _ _ Bool is_slice_type_step t

-- the inputs in order: the receiver, where there is one, and then the parameters
abbrev pub method_inputs : Method → List (Skeleton TypeId)
method_inputs m = where_any (λ receiver. receiver_skeleton receiver.ty ∷ []) m.param_self ++ map (λ param. param_skeleton param.ty) m.params

-- all leaves of the inputs, in order: a path begins with the number of its input
abbrev pub method_leaves : Definitions → Method → List DeepLeaf
method_leaves defs m = from_fields in_field (input_leaves (fields_in defs) m.lifetime_env.count) (method_inputs m)

-- the names of the inputs, where the receiver has this one
abbrev pub input_names : List ℕ → Method → List (List ℕ)
input_names self_name m = where_any (λ _. self_name ∷ []) m.param_self ++ map (λ param. param.name) m.params

-- the names along a path from inside an input, as far as it leads
abbrev pub field_names : Definitions → List ℕ → Skeleton TypeId → List (List ℕ)
field_names defs [] s = []
field_names defs (i ∷ rest) Nothing = []
field_names defs (i ∷ rest) (Carrier lifetimes) = []
field_names defs (i ∷ rest) (Struct key args) =
    where_any (λ def. where_any (λ field. field.name ∷ []) (slice_get def.fields i)) (input_struct defs key)
    ++ where_any (field_names defs rest) (slice_get (fields_in defs key) i)

-- the names along a path that begins with the number of an input
abbrev pub path_names : Definitions → List ℕ → Method → List ℕ → List (List ℕ)
path_names defs self_name m [] = []
path_names defs self_name m (i ∷ rest) =
    where_any (λ name. name ∷ []) (slice_get (input_names self_name m) i)
    ++ where_any (field_names defs rest) (slice_get (method_inputs m) i)
