-- The leaves of types with their paths and names, as a walk finds them: step by step.
use Rattle.std.specs.Prelude.{◌≡◌, ℕ, zero, suc, List, [], ◌∷◌, ◌++◌, Option, cond, map}
use Rattle.std.specs.List.{All, enumerate_from, flat_map}
use Rattle.std.specs.BTreeSet.{BTreeSet}
use Rattle.hir_life.specs.Substitution.{subst_each}
use Rattle.hir_life.specs.declared.maybe_static.MaybeStatic.{MaybeStatic}
use Rattle.hir_ids.specs.declared.ids.TypeId.{TypeId}
use Rattle.hir_ids.specs.declared.ids.TypeId.TheVariants as type
use Rattle.hir_ids.specs.declared.owners.Borrow.{Borrow}
use Rattle.hir_types.specs.declared.callbacks.NoCallback.{NoCallback}
use Rattle.hir_types.specs.declared.paths.NoTraitPath.{NoTraitPath}
use Rattle.hir_types.specs.declared.paths.StructPath.{StructPath}
use Rattle.hir_types.specs.declared.positions.Everywhere.{Everywhere}
use Rattle.hir_definitions.specs.declared.definitions.StructField.{StructField}
use Rattle.hir_definitions.specs.declared.methods.Method.{Method}
use Rattle.hir_definitions.specs.declared.methods.Param.{Param}
use Rattle.hir_definitions.specs.declared.methods.ParamSelf.{ParamSelf}
use Rattle.hir_mentions.specs.Mentions.{where_any}
use Rattle.hir_context.specs.declared.parts.Definitions.{Definitions}
use Rattle.hir_skeleton.specs.Skeletons.{Skeleton, Nothing, Carrier, Struct}
use Rattle.hir_skeleton.specs.Leaves.{each_once}
use Rattle.hir_context.specs.Lookups.{InputStruct}
use Rattle.hir_skeleton.specs.Lowered.{field_skeleton, receiver_skeleton}
use Rattle.hir_skeleton.specs.Inputs.{input_struct, param_skeleton}
use Rattle.hir_skeleton.specs.NamedLeaves.{NamedLeaf}
use Rattle.hir_borrowing_fields.specs.declared.walk.LeafWalk.{LeafWalk}
use Rattle.hir_borrowing_fields.specs.inside.Findings.{FindsMore}
use Rattle.hir_borrowing_fields.specs.inside.Places.{Step, step_names, step_numbers}

-- a field or an input: its name and its skeleton
pub record NamedSkeleton (K : Type 0) : Type 0 where
  pub name : List ℕ
  pub skeleton : Skeleton K

-- the same leaf behind these steps: `page` behind `mark`
abbrev pub behind : List Step → NamedLeaf → NamedLeaf
behind front leaf = record leaf { path = step_numbers front ++ leaf.path; names = step_names front ++ leaf.names }

-- the step into one of several, with its number among them
abbrev pub step_into : {K : Type 0} → ℕ × NamedSkeleton K → Step
step_into one = record { number = one.0; name = one.1.name }

-- the leaves of several whose numbers begin so, each behind the step into it
abbrev pub leaves_from : {K : Type 0} → ℕ → (Skeleton K → List NamedLeaf) → List (NamedSkeleton K) → List NamedLeaf
leaves_from first of_one all =
    flat_map (λ one. map (behind (step_into one ∷ [])) (of_one one.1.skeleton)) (enumerate_from first all)

-- the leaves of a type in which these arguments stand for its lifetimes, from those of structs with their arguments
abbrev pub leaves_of_type : {K : Type 0} → (K → List (MaybeStatic ℕ) → List NamedLeaf) → List (MaybeStatic ℕ) → Skeleton K → List NamedLeaf
leaves_of_type of_struct args Nothing = []
leaves_of_type of_struct args (Carrier lifetimes) =
    record { path = []; names = []; carried = each_once (subst_each lifetimes args) } ∷ []
leaves_of_type of_struct args (Struct key given) = of_struct key (subst_each given args)

-- the leaves of a struct with these arguments, so many levels deep, where it is known which fields a struct has
abbrev pub leaves_of_struct : {K : Type 0} → (K → List (NamedSkeleton K)) → ℕ → K → List (MaybeStatic ℕ) → List NamedLeaf
leaves_of_struct named_in zero key args = []
leaves_of_struct named_in (suc levels) key args =
    leaves_from 0 (leaves_of_type (leaves_of_struct named_in levels) args) (named_in key)

-- a field
abbrev pub InputField : Type 0
InputField = StructField Everywhere NoCallback Borrow ℕ StructPath NoTraitPath

abbrev pub named_field : InputField → NamedSkeleton TypeId
named_field field = record { name = field.name; skeleton = field_skeleton field.ty }

-- the fields of a struct, in order: a disabled one has none
abbrev pub named_fields : InputStruct → List (NamedSkeleton TypeId)
named_fields def = cond def.attrs.disable [] (map named_field def.fields)

abbrev pub named_fields_in : Definitions → TypeId → List (NamedSkeleton TypeId)
named_fields_in defs id = where_any named_fields (input_struct defs id)

-- the receiver with this name, where there is one
abbrev pub named_receiver : List ℕ → Option ParamSelf → List (NamedSkeleton TypeId)
named_receiver self_name receiver =
    where_any (λ r. record { name = self_name; skeleton = receiver_skeleton r.ty } ∷ []) receiver

-- a parameter
abbrev pub named_param : Param → NamedSkeleton TypeId
named_param param = record { name = param.name; skeleton = param_skeleton param.ty }

-- the inputs of a method in order, where the receiver has this name
abbrev pub named_inputs : List ℕ → Method → List (NamedSkeleton TypeId)
named_inputs self_name m = named_receiver self_name m.param_self ++ map named_param m.params

-- the leaves of a struct among definitions
abbrev pub walked_struct : Definitions → ℕ → TypeId → List (MaybeStatic ℕ) → List NamedLeaf
walked_struct defs = leaves_of_struct (named_fields_in defs)

-- the leaves of a type among definitions
abbrev pub walked_type : Definitions → ℕ → List (MaybeStatic ℕ) → Skeleton TypeId → List NamedLeaf
walked_type defs levels args s = leaves_of_type (walked_struct defs levels) args s

-- the struct of this place has no leaves so many levels deep, whatever it is given
abbrev pub IsBare : Definitions → ℕ × ℕ → Type 0
IsBare defs visit = (args : List (MaybeStatic ℕ)) → walked_struct defs visit.1 (type.Struct visit.0) args ≡ []

-- the same of each of a set
abbrev pub AreBare : Definitions → BTreeSet (ℕ × ℕ) → Type 0
AreBare defs visits = All (IsBare defs) visits.keys

-- a walk found these leaves besides, and what it knows to have none has none
pub record GoesOn (defs : Definitions) (old new : LeafWalk) (more : List NamedLeaf) : Type 0 where
  pub finds : FindsMore old.found new.found more
  pub bare : AreBare defs new.bare
