-- The inputs of a method or a function in order, the receiver first: what decides of each from where something may be borrowed.
use Rattle.std.specs.Prelude.{ℕ, List, [], ◌∷◌, ◌++◌, map, Bool, false, Option}
use Rattle.bridge_ast.specs.declared.place.ItemPlace.{ItemPlace}
use Rattle.bridge_decl.specs.declared.types.Mutability.{Mutability}
use Rattle.bridge_order.specs.declared.catalog.Catalog.{Catalog}
use Rattle.hir_definitions.specs.declared.methods.Method.{Method}
use Rattle.hir_form.specs.ParamForms.{ParamType}
use Rattle.hir_ids.specs.declared.ids.TypeId.{TypeId}
use Rattle.hir_life.specs.declared.maybe_static.MaybeStatic.{MaybeStatic}
use Rattle.hir_mentions.specs.Mentions.{where_any}
use Rattle.hir_number.specs.declared.numbered.NumberedType.{NumberedType}
use Rattle.hir_number.specs.declared.numbered.Target.{Target}
use Rattle.hir_number.specs.declared.signature.NumberedSignature.{NumberedSignature}
use Rattle.hir_skeleton.specs.Edges.{ShallowEdge, shallow_edges}
use Rattle.hir_skeleton.specs.Inputs.{is_slice_type, param_skeleton}
use Rattle.hir_skeleton.specs.Leaves.{DeepLeaf, from_fields, in_field, input_leaves}
use Rattle.hir_skeleton.specs.Lowered.{receiver_skeleton}
use Rattle.hir_skeleton.specs.Skeletons.{Skeleton}
use Rattle.hir_types.specs.Types.{is_option}
use Rattle.hir_types.specs.declared.self_types.SelfType.{SelfType}
use Rattle.hir_readings.specs.Knowing.{known_as}
use Rattle.hir_readings.specs.NumberedSkeletons.{numbered_skeleton, own_skeleton, stands_for_slice, stands_in_option}

-- ---- inputs

-- an input: its skeleton, whether it stands in an option, and whether it is a slice
pub record Input (K : Type 0) : Type 0 where
  pub skeleton : Skeleton K
  pub optional : Bool
  pub slice : Bool

-- the same where structs are known otherwise
abbrev pub input_known_as : {K L : Type 0} → (K → L) → Input K → Input L
input_known_as f input = record { skeleton = known_as f input.skeleton; optional = input.optional; slice = input.slice }

-- ---- what is read off them

-- all leaves of the inputs of a method with so many lifetimes, in order, where it is known which fields a struct has: a path begins with the
-- number of its input
abbrev pub leaves_of_inputs : {K : Type 0} → (K → List (Skeleton K)) → ℕ → List (Input K) → List DeepLeaf
leaves_of_inputs fields_of count inputs = from_fields in_field (input_leaves fields_of count) (map (λ input. input.skeleton) inputs)

-- the shallow edges of each input, by a test of lifetimes
abbrev pub edges_of_inputs : {K : Type 0} → (ℕ → Bool) → List (Input K) → List (List (ShallowEdge K))
edges_of_inputs test inputs = map (λ input. shallow_edges test input.optional input.skeleton) inputs

-- ---- of a numbered signature

abbrev pub numbered_input : Catalog → NumberedType → Input ItemPlace
numbered_input catalog ty = record { skeleton = numbered_skeleton catalog ty; optional = stands_in_option ty; slice = stands_for_slice ty }

-- a receiver stands in no option, and is no slice
abbrev pub own_input : Catalog → Option (MaybeStatic ℕ × Mutability) → Target → Input ItemPlace
own_input catalog borrow target = record { skeleton = own_skeleton catalog borrow target; optional = false; slice = false }

abbrev pub numbered_inputs : Catalog → NumberedSignature → List (Input ItemPlace)
numbered_inputs catalog n = where_any (λ target. own_input catalog n.borrow target ∷ []) n.own ++ map (numbered_input catalog) n.params

-- ---- of a lowered method

abbrev pub lowered_input : ParamType → Input TypeId
lowered_input ty = record { skeleton = param_skeleton ty; optional = is_option ty; slice = is_slice_type ty }

abbrev pub lowered_receiver : SelfType → Input TypeId
lowered_receiver ty = record { skeleton = receiver_skeleton ty; optional = false; slice = false }

abbrev pub lowered_inputs : Method → List (Input TypeId)
lowered_inputs m = where_any (λ receiver. lowered_receiver receiver.ty ∷ []) m.param_self ++ map (λ param. lowered_input param.ty) m.params
