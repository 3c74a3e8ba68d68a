-- What is read off inputs is the same however structs are known.
use Rattle.std.proofs.Common.{◌≡◌, ℕ, zero, suc, ◌+◌, List, [], ◌∷◌, ◌++◌, map, Bool, true, false, cond, Some, None, refl, ap, ◌∙◌}
use Rattle.std.specs.List.{cons_option, enumerate_from, filter_map, flat_map, list_any}
use Rattle.hir_life.specs.Substitution.{identity, subst_each}
use Rattle.hir_life.specs.declared.maybe_static.MaybeStatic.{MaybeStatic}
use Rattle.hir_skeleton.specs.Edges.{ShallowEdge, Whole, Position, edge_at, shallow_edges}
use Rattle.hir_skeleton.specs.Leaves.{DeepLeaf, deep_leaves, from_fields, in_field, number_passes, struct_leaves, type_leaves}
use Rattle.hir_skeleton.specs.Skeletons.{Skeleton, Nothing, Carrier, Struct}
use Rattle.hir_readings.specs.Inputs.{Input, edges_of_inputs, input_known_as, leaves_of_inputs}
use Rattle.hir_readings.specs.Knowing.{edge_known_as, known_as}

-- ---- leaves

module _ {K L : Type 0} (f : K → L) (fields : K → List (Skeleton K)) (others : L → List (Skeleton L)) (agree : (k : K) → others (f k) ≡ map (known_as f) (fields k)) where
  types_known : (of_key : K → List (MaybeStatic ℕ) → List DeepLeaf) (of_other : L → List (MaybeStatic ℕ) → List DeepLeaf)
      → ((k : K) (args : List (MaybeStatic ℕ)) → of_other (f k) args ≡ of_key k args)
      → (args : List (MaybeStatic ℕ)) (s : Skeleton K) → type_leaves of_other args (known_as f s) ≡ type_leaves of_key args s
  types_known of_key of_other same args Nothing = refl
  types_known of_key of_other same args (Carrier lifetimes) = refl
  types_known of_key of_other same args (Struct key given) = same key (subst_each given args)

  -- fields from the number m on
  abbrev below_from : {J : Type 0} → (Skeleton J → List DeepLeaf) → ℕ → List (Skeleton J) → List DeepLeaf
  below_from g m ss = flat_map (λ field. map (in_field field.0) (g field.1)) (enumerate_from m ss)

  fields_known : (of_key : Skeleton K → List DeepLeaf) (of_other : Skeleton L → List DeepLeaf) → ((s : Skeleton K) → of_other (known_as f s) ≡ of_key s)
      → (m : ℕ) (ss : List (Skeleton K)) → below_from of_other m (map (known_as f) ss) ≡ below_from of_key m ss
  fields_known of_key of_other same m [] = refl
  fields_known of_key of_other same m (s ∷ ss) =
      ap (λ leaves. map (in_field m) leaves ++ below_from of_other (m + 1) (map (known_as f) ss)) (same s)
      ∙ ap (λ rest. map (in_field m) (of_key s) ++ rest) (fields_known of_key of_other same (m + 1) ss)

  structs_known : (levels : ℕ) (k : K) (args : List (MaybeStatic ℕ)) → struct_leaves others levels (f k) args ≡ struct_leaves fields levels k args
  structs_known zero k args = refl
  structs_known (suc levels) k args =
      ap (λ ss. from_fields in_field (type_leaves (struct_leaves others levels) args) ss) (agree k)
      ∙ fields_known (type_leaves (struct_leaves fields levels) args) (type_leaves (struct_leaves others levels) args)
      (types_known (struct_leaves fields levels) (struct_leaves others levels) (structs_known levels) args) 0 (fields k)

  pub leaves_known : (levels : ℕ) (args : List (MaybeStatic ℕ)) (s : Skeleton K) → deep_leaves others levels args (known_as f s) ≡ deep_leaves fields levels args s
  leaves_known levels args s = types_known (struct_leaves fields levels) (struct_leaves others levels) (structs_known levels) args s

  -- of inputs, so many levels deep
  inputs_below : (levels : ℕ) (args : List (MaybeStatic ℕ)) (m : ℕ) (inputs : List (Input K))
      → below_from (deep_leaves others levels args) m (map (λ input. input.skeleton) (map (input_known_as f) inputs)) ≡ below_from (deep_leaves fields levels args) m (map (λ input. input.skeleton) inputs)
  inputs_below levels args m [] = refl
  inputs_below levels args m (input ∷ inputs) =
      ap (λ leaves. map (in_field m) leaves ++ below_from (deep_leaves others levels args) (m + 1) (map (λ input. input.skeleton) (map (input_known_as f) inputs))) (leaves_known levels args input.skeleton)
      ∙ ap (λ rest. map (in_field m) (deep_leaves fields levels args input.skeleton) ++ rest) (inputs_below levels args (m + 1) inputs)

  pub inputs_known : (count : ℕ) (inputs : List (Input K)) → leaves_of_inputs others count (map (input_known_as f) inputs) ≡ leaves_of_inputs fields count inputs
  inputs_known count inputs = inputs_below 256 (identity count) 0 inputs

-- ---- edges

abbrev whole_edges : {J : Type 0} → Bool → List (ShallowEdge J)
whole_edges b = cond b (Whole ∷ []) []

module _ {K L : Type 0} (f : K → L) (test : ℕ → Bool) where
  one_edge : (b optional : Bool) (key : K) (arg : ℕ × MaybeStatic ℕ) (more : List (ShallowEdge L)) (rest : List (ShallowEdge K)) → more ≡ map (edge_known_as f) rest
      → cons_option (cond b (Some (Position (f key) arg.0 optional)) None) more ≡ map (edge_known_as f) (cons_option (cond b (Some (Position key arg.0 optional)) None) rest)
  one_edge true optional key arg more rest is = ap (λ es. Position (f key) arg.0 optional ∷ es) is
  one_edge false optional key arg more rest is = is

  positions_known : (optional : Bool) (key : K) (args : List (ℕ × MaybeStatic ℕ)) → filter_map (edge_at test optional (f key)) args ≡ map (edge_known_as f) (filter_map (edge_at test optional key) args)
  positions_known optional key [] = refl
  positions_known optional key (arg ∷ args) =
      one_edge (number_passes test arg.1) optional key arg (filter_map (edge_at test optional (f key)) args) (filter_map (edge_at test optional key) args) (positions_known optional key args)

  whole_known : (b : Bool) → whole_edges {J = L} b ≡ map (edge_known_as f) (whole_edges {J = K} b)
  whole_known true = refl
  whole_known false = refl

  pub edges_known : (optional : Bool) (s : Skeleton K) → shallow_edges test optional (known_as f s) ≡ map (edge_known_as f) (shallow_edges test optional s)
  edges_known optional Nothing = refl
  edges_known optional (Carrier lifetimes) = whole_known (list_any (number_passes test) lifetimes)
  edges_known optional (Struct key args) = positions_known optional key (enumerate_from 0 args)

  pub input_edges_known : (inputs : List (Input K)) → edges_of_inputs test (map (input_known_as f) inputs) ≡ map (map (edge_known_as f)) (edges_of_inputs test inputs)
  input_edges_known [] = refl
  input_edges_known (input ∷ inputs) =
      ap (λ es. es ∷ edges_of_inputs test (map (input_known_as f) inputs)) (edges_known input.optional input.skeleton)
      ∙ ap (λ rest. map (edge_known_as f) (shallow_edges test input.optional input.skeleton) ∷ rest) (input_edges_known inputs)
