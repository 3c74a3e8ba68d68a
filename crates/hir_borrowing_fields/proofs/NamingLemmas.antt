-- The leaves that a walk finds are those of the inputs, with their paths and the names of these.
use Rattle.std.proofs.Common.{◌≡◌, ◌+◌, ℕ, zero, suc, List, [], ◌∷◌, ◌++◌, Bool, true, false, cond, map, Option, Some, None, slice_get, option_map, refl, sym, ap, ◌∙◌, arith}
use Rattle.std.specs.List.{enumerate_from, flat_map}
use Rattle.std.proofs.lemmas.List.{map-append}
use Rattle.std.proofs.lemmas.Option.{none-some, same_Some, slice_get-map}
use Rattle.hir_life.specs.Substitution.{identity, subst_each}
use Rattle.hir_life.specs.declared.maybe_static.MaybeStatic.{MaybeStatic}
use Rattle.hir_ids.specs.declared.ids.TypeId.{TypeId}
use Rattle.hir_definitions.specs.declared.methods.Method.{Method}
use Rattle.hir_definitions.specs.declared.methods.Param.{Param}
use Rattle.hir_definitions.specs.declared.methods.ParamSelf.{ParamSelf}
use Rattle.hir_mentions.specs.Mentions.{where_any}
use Rattle.hir_context.specs.declared.parts.Definitions.{Definitions}
use Rattle.hir_skeleton.specs.Skeletons.{Skeleton, Nothing, Carrier, Struct}
use Rattle.hir_skeleton.specs.Leaves.{DeepLeaf, from_fields, in_field, struct_leaves, type_leaves}
use Rattle.hir_context.specs.Lookups.{InputStruct}
use Rattle.hir_skeleton.specs.Lowered.{field_skeleton, input_fields, receiver_skeleton}
use Rattle.hir_skeleton.specs.Inputs.{field_names, fields_in, input_names, input_struct, method_inputs, param_skeleton, path_names}
use Rattle.hir_skeleton.specs.NamedLeaves.{NamedLeaf, leaf_named, borrowing_leaves}
use Rattle.hir_borrowing_fields.specs.inside.Places.{Step}
use Rattle.hir_borrowing_fields.specs.inside.Walks.{InputField, NamedSkeleton, behind, leaves_from, named_field, named_fields, named_fields_in, named_inputs, named_param, named_receiver, step_into, walked_struct, walked_type}

-- a leaf behind the step into a field, as a leaf in the field of that number and name
behind_is_in : (step : Step) (inner names : List ℕ → List (List ℕ)) → ((rest : List ℕ) → names (step.number ∷ rest) ≡ step.name ∷ inner rest) → (leaves : List DeepLeaf)
    → map (behind (step ∷ [])) (map (leaf_named inner) leaves) ≡ map (leaf_named names) (map (in_field step.number) leaves)
behind_is_in step inner names same [] = refl
behind_is_in step inner names same (leaf ∷ leaves) =
    ap (λ some. record { path = step.number ∷ leaf.path; names = some; carried = leaf.carried } ∷ map (behind (step ∷ [])) (map (leaf_named inner) leaves)) (sym (same leaf.path))
    ∙ ap (λ rest. leaf_named names (in_field step.number leaf) ∷ rest) (behind_is_in step inner names same leaves)

-- the names of these, from the number m on, are those that paths from there have
abbrev pub NamesFrom : {K : Type 0} → (Skeleton K → List ℕ → List (List ℕ)) → (List ℕ → List (List ℕ)) → ℕ → List (NamedSkeleton K) → Type 0
NamesFrom {K} inner names m all = (j : ℕ) (one : NamedSkeleton K) → slice_get all j ≡ Some one → (rest : List ℕ) → names ((m + j) ∷ rest) ≡ one.name ∷ inner one.skeleton rest

module _ {K : Type 0} (inner : Skeleton K → List ℕ → List (List ℕ)) (f : Skeleton K → List DeepLeaf) (g : Skeleton K → List NamedLeaf) (same : (s : Skeleton K) → g s ≡ map (leaf_named (inner s)) (f s)) where
  pub named_each : (names : List ℕ → List (List ℕ)) (m : ℕ) (all : List (NamedSkeleton K)) → NamesFrom inner names m all
      → leaves_from m g all ≡ map (leaf_named names) (flat_map (λ field. map (in_field field.0) (f field.1)) (enumerate_from m (map (λ one. one.skeleton) all)))
  named_each names m [] named = refl
  named_each names m (one ∷ all) named =
      let first : m + 0 ≡ m = omega arith in
      let rest = flat_map (λ field. map (in_field field.0) (f field.1)) (enumerate_from (m + 1) (map (λ (o : NamedSkeleton K). o.skeleton) all)) in
      ap (λ leaves. map (behind (step_into (m, one) ∷ [])) leaves ++ leaves_from (m + 1) g all) (same one.skeleton)
      ∙ ap (λ leaves. leaves ++ leaves_from (m + 1) g all) (behind_is_in (step_into (m, one)) (inner one.skeleton) names (λ path. ap (λ k. names (k ∷ path)) (sym first) ∙ named 0 one refl path) (f one.skeleton))
      ∙ ap (λ leaves. map (leaf_named names) (map (in_field m) (f one.skeleton)) ++ leaves)
      (named_each names (m + 1) all (λ j other at path. let next : m + 1 + j ≡ m + suc j = omega arith in ap (λ k. names (k ∷ path)) next ∙ named (suc j) other at path))
      ∙ sym (map-append (leaf_named names) (map (in_field m) (f one.skeleton)) rest)

module _ (defs : Definitions) where
  abbrev inner_names : Skeleton TypeId → List ℕ → List (List ℕ)
  inner_names s path = field_names defs path s

  -- the skeletons of fields with names are the fields
  skeletons_of : (disabled : Bool) (fields : List InputField) → map (λ one. one.skeleton) (cond disabled [] (map named_field fields)) ≡ cond disabled [] (map (λ (field : InputField). field_skeleton field.ty) fields)
  skeletons_of true fields = refl
  skeletons_of false [] = refl
  skeletons_of false (field ∷ fields) = ap (λ rest. field_skeleton field.ty ∷ rest) (skeletons_of false fields)

  skeletons_where : (def : Option InputStruct) → map (λ one. one.skeleton) (where_any named_fields def) ≡ where_any input_fields def
  skeletons_where None = refl
  skeletons_where (Some def) = skeletons_of def.attrs.disable def.fields

  skeletons_in : (key : TypeId) → map (λ one. one.skeleton) (named_fields_in defs key) ≡ fields_in defs key
  skeletons_in key = skeletons_where (input_struct defs key)

  -- the name of a field
  name_of : (disabled : Bool) (fields : List InputField) (i : ℕ) (one : NamedSkeleton TypeId) → slice_get (cond disabled [] (map named_field fields)) i ≡ Some one → where_any (λ (field : InputField). field.name ∷ []) (slice_get fields i) ≡ one.name ∷ []
  name_of true fields i one at = absurd (none-some one at)
  name_of false [] i one at = absurd (none-some one at)
  name_of false (field ∷ fields) zero one at = ap (λ (o : NamedSkeleton TypeId). o.name ∷ []) (same_Some (named_field field) one at)
  name_of false (field ∷ fields) (suc i) one at = name_of false fields i one at

  name_where : (def : Option InputStruct) (i : ℕ) (one : NamedSkeleton TypeId) → slice_get (where_any named_fields def) i ≡ Some one → where_any (λ (d : InputStruct). where_any (λ field. field.name ∷ []) (slice_get d.fields i)) def ≡ one.name ∷ []
  name_where None i one at = absurd (none-some one at)
  name_where (Some def) i one at = name_of def.attrs.disable def.fields i one at

  skeleton_at : (all : List (NamedSkeleton TypeId)) (skeletons : List (Skeleton TypeId)) (i : ℕ) (one : NamedSkeleton TypeId) → map (λ o. o.skeleton) all ≡ skeletons → slice_get all i ≡ Some one → slice_get skeletons i ≡ Some one.skeleton
  skeleton_at all skeletons i one is at =
      ap (λ some. slice_get some i) (sym is) ∙ slice_get-map (λ o. o.skeleton) all i ∙ ap (option_map (λ (o : NamedSkeleton TypeId). o.skeleton)) at

  fields_named : (key : TypeId) (given : List (MaybeStatic ℕ)) → NamesFrom inner_names (λ path. field_names defs path (Struct key given)) 0 (named_fields_in defs key)
  fields_named key given i one at rest =
      let same : 0 + i ≡ i = omega arith in
      ap (λ k. field_names defs (k ∷ rest) (Struct key given)) same
      ∙ ap (λ front. front ++ where_any (field_names defs rest) (slice_get (fields_in defs key) i)) (name_where (input_struct defs key) i one at)
      ∙ ap (λ s. one.name ∷ where_any (field_names defs rest) s) (skeleton_at (named_fields_in defs key) (fields_in defs key) i one (skeletons_in key) at)

  -- of structs so many levels deep
  abbrev StructsNamed : ℕ → Type 0
  StructsNamed n = (key : TypeId) (given args : List (MaybeStatic ℕ)) → walked_struct defs n key args ≡ map (leaf_named (λ path. field_names defs path (Struct key given))) (struct_leaves (fields_in defs) n key args)

  types_named : (n : ℕ) → StructsNamed n → (args : List (MaybeStatic ℕ)) (s : Skeleton TypeId) → walked_type defs n args s ≡ map (leaf_named (inner_names s)) (type_leaves (struct_leaves (fields_in defs) n) args s)
  types_named n claim args Nothing = refl
  types_named n claim args (Carrier ls) = refl
  types_named n claim args (Struct key given) = claim key given (subst_each given args)

  more_named : (n : ℕ) → StructsNamed n → StructsNamed (suc n)
  more_named n claim key given args =
      named_each inner_names (type_leaves (struct_leaves (fields_in defs) n) args) (walked_type defs n args) (types_named n claim args) (λ path. field_names defs path (Struct key given)) 0 (named_fields_in defs key) (fields_named key given)
      ∙ ap (λ fields. map (leaf_named (λ path. field_names defs path (Struct key given))) (from_fields in_field (type_leaves (struct_leaves (fields_in defs) n) args) fields)) (skeletons_in key)

  structs_named : (n : ℕ) → StructsNamed n
  structs_named zero = λ key given args. refl
  structs_named (suc n) = more_named n (structs_named n)

  module _ (self_name : List ℕ) (m : Method) where
    receiver_parts : (receiver : Option ParamSelf) → (map (λ (one : NamedSkeleton TypeId). one.skeleton) (named_receiver self_name receiver) ≡ where_any (λ r. receiver_skeleton r.ty ∷ []) receiver)
        × (map (λ (one : NamedSkeleton TypeId). one.name) (named_receiver self_name receiver) ≡ where_any (λ r. self_name ∷ []) receiver)
    receiver_parts None = (refl, refl)
    receiver_parts (Some r) = (refl, refl)

    params_skeletons : (params : List Param) → map (λ one. one.skeleton) (map named_param params) ≡ map (λ (p : Param). param_skeleton p.ty) params
    params_skeletons [] = refl
    params_skeletons (p ∷ params) = ap (λ rest. param_skeleton p.ty ∷ rest) (params_skeletons params)

    params_names : (params : List Param) → map (λ one. one.name) (map named_param params) ≡ map (λ (p : Param). p.name) params
    params_names [] = refl
    params_names (p ∷ params) = ap (λ rest. p.name ∷ rest) (params_names params)

    inputs_skeletons : map (λ one. one.skeleton) (named_inputs self_name m) ≡ method_inputs m
    inputs_skeletons =
        map-append (λ (one : NamedSkeleton TypeId). one.skeleton) _ (map named_param m.params)
        ∙ (λ i. (receiver_parts m.param_self).0 i ++ params_skeletons m.params i)

    inputs_names : map (λ one. one.name) (named_inputs self_name m) ≡ input_names self_name m
    inputs_names =
        map-append (λ (one : NamedSkeleton TypeId). one.name) _ (map named_param m.params)
        ∙ (λ i. (receiver_parts m.param_self).1 i ++ params_names m.params i)

    name_at : (i : ℕ) (one : NamedSkeleton TypeId) → slice_get (named_inputs self_name m) i ≡ Some one → slice_get (input_names self_name m) i ≡ Some one.name
    name_at i one at =
        ap (λ some. slice_get some i) (sym inputs_names) ∙ slice_get-map (λ o. o.name) (named_inputs self_name m) i ∙ ap (option_map (λ (o : NamedSkeleton TypeId). o.name)) at

    inputs_named : NamesFrom inner_names (path_names defs self_name m) 0 (named_inputs self_name m)
    inputs_named i one at rest =
        let same : 0 + i ≡ i = omega arith in
        ap (λ k. path_names defs self_name m (k ∷ rest)) same
        ∙ ap (λ name. where_any (λ (n : List ℕ). n ∷ []) name ++ where_any (field_names defs rest) (slice_get (method_inputs m) i)) (name_at i one at)
        ∙ ap (λ s. one.name ∷ where_any (field_names defs rest) s) (skeleton_at (named_inputs self_name m) (method_inputs m) i one inputs_skeletons at)

    -- the leaves that a walk finds
    pub method_named : leaves_from 0 (walked_type defs 256 (identity m.lifetime_env.count)) (named_inputs self_name m) ≡ borrowing_leaves defs self_name m
    method_named =
        named_each inner_names (type_leaves (struct_leaves (fields_in defs) 256) (identity m.lifetime_env.count)) (walked_type defs 256 (identity m.lifetime_env.count)) (types_named 256 (structs_named 256) (identity m.lifetime_env.count)) (path_names defs self_name m) 0
        (named_inputs self_name m) inputs_named
        ∙ ap (λ fields. map (leaf_named (path_names defs self_name m)) (from_fields in_field (type_leaves (struct_leaves (fields_in defs) 256) (identity m.lifetime_env.count)) fields)) inputs_skeletons
