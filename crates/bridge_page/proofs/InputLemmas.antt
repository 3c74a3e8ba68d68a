-- Inputs by their places: their names, and the names along the paths of their leaves.
use Rattle.std.proofs.Common.{◌≡◌, ℕ, zero, suc, ◌+◌, Bool, true, false, List, [], ◌∷◌, ◌++◌, map, cond, Option, Some, None, refl, sym, ap, ◌∙◌}
use Rattle.std.specs.Bool.{⊤}
use Rattle.std.specs.Prelude.{slice_get, option_map, codes, is_some}
use Rattle.std.specs.List.{enumerate_from, filter, flat_map, join_by}
use Rattle.std.proofs.lemmas.Option.{slice_get-map}
use Rattle.hir_context.specs.declared.parts.Definitions.{Definitions}
use Rattle.hir_definitions.specs.declared.methods.Method.{Method}
use Rattle.hir_definitions.specs.declared.methods.Param.{Param}
use Rattle.hir_definitions.specs.declared.methods.ParamSelf.{ParamSelf}
use Rattle.hir_ids.specs.declared.ids.TypeId.{TypeId}
use Rattle.hir_mentions.specs.Mentions.{where_any}
use Rattle.hir_skeleton.specs.Inputs.{field_names, fields_in, method_inputs, method_leaves, param_skeleton, path_names}
use Rattle.hir_skeleton.specs.Leaves.{DeepLeaf, in_field, input_leaves}
use Rattle.hir_skeleton.specs.Lowered.{receiver_skeleton}
use Rattle.hir_skeleton.specs.NamedLeaves.{NamedLeaf, leaf_named}
use Rattle.hir_skeleton.specs.Skeletons.{Skeleton}
use Rattle.bridge_report.specs.Borrowings.{input_place, leaf_path}
use Rattle.bridge_report.specs.InContext.{receiver_name}
use Rattle.bridge_report.specs.Page.{leaf_text}
use Rattle.bridge_page.specs.inside.Printed.{dotted, leaf_path_text, place_name, place_skeleton}

-- ---- names along paths

module _ (on : Skeleton TypeId → List (List ℕ)) where
  -- a name, and those from a skeleton on
  abbrev names_after : Option (List ℕ) → Option (Skeleton TypeId) → List (List ℕ)
  names_after name inside = where_any (λ name. name ∷ []) name ++ where_any on inside

  param_told : (param : Option Param)
      → where_any (λ param. param.name) param ++ dotted (where_any on (option_map (λ param. param_skeleton param.ty) param))
      ≡ join_by (λ name. name) (codes ".") (names_after (option_map (λ param. param.name) param) (option_map (λ param. param_skeleton param.ty) param))
  param_told None = refl
  param_told (Some param) = refl

  param_named : (params : List Param) (n : ℕ)
      → where_any (λ param. param.name) (slice_get params n) ++ dotted (where_any on (option_map (λ param. param_skeleton param.ty) (slice_get params n)))
      ≡ join_by (λ name. name) (codes ".") (names_after (slice_get (map (λ param. param.name) params) n) (slice_get (map (λ param. param_skeleton param.ty) params) n))
  param_named params n =
      param_told (slice_get params n)
      ∙ sym (ap (λ name. join_by (λ name. name) (codes ".") (names_after name (option_map (λ param. param_skeleton param.ty) (slice_get params n)))) (slice_get-map (λ (param : Param). param.name) params n))
      ∙ sym (ap (λ inside. join_by (λ name. name) (codes ".") (names_after (slice_get (map (λ (param : Param). param.name) params) n) inside)) (slice_get-map (λ (param : Param). param_skeleton param.ty) params n))

  -- from an input by its place
  input_named : (receiver : Option ParamSelf) (params : List Param) (n : ℕ)
      → place_name params (input_place (is_some receiver) n) ++ dotted (where_any on (place_skeleton receiver params (input_place (is_some receiver) n)))
      ≡ join_by (λ name. name) (codes ".")
      (names_after (slice_get (where_any (λ _. receiver_name ∷ []) receiver ++ map (λ param. param.name) params) n)
      (slice_get (where_any (λ receiver. receiver_skeleton receiver.ty ∷ []) receiver ++ map (λ param. param_skeleton param.ty) params) n))
  input_named None params n = param_named params n
  input_named (Some receiver) params zero = refl
  input_named (Some receiver) params (suc n) = param_named params n

-- ---- leaves

-- each path begins with the number of an input
abbrev Begin : List DeepLeaf → Type 0
Begin [] = ⊤
Begin (leaf ∷ leaves) = ((n : ℕ) × (rest : List ℕ) × (leaf.path ≡ n ∷ rest)) × Begin leaves

begin_in : (n : ℕ) (leaves others : List DeepLeaf) → Begin others → Begin (map (in_field n) leaves ++ others)
begin_in n [] others all = all
begin_in n (leaf ∷ leaves) others all = ((n, leaf.path, refl), begin_in n leaves others all)

begin_each : (of_field : Skeleton TypeId → List DeepLeaf) (n : ℕ) (fields : List (Skeleton TypeId))
    → Begin (flat_map (λ field. map (in_field field.0) (of_field field.1)) (enumerate_from n fields))
begin_each of_field n [] = tt
begin_each of_field n (field ∷ fields) = begin_in n (of_field field) _ (begin_each of_field (n + 1) fields)

module _ (defs : Definitions) (m : Method) where
  abbrev printed_leaf : NamedLeaf → List ℕ
  printed_leaf leaf = leaf_path_text defs m (leaf_path (is_some m.param_self) leaf.path)

  abbrev named : DeepLeaf → NamedLeaf
  named leaf = leaf_named (path_names defs receiver_name m) leaf

  path_told : (path : List ℕ) (n : ℕ) (rest : List ℕ) → path ≡ n ∷ rest
      → leaf_path_text defs m (leaf_path (is_some m.param_self) path) ≡ join_by (λ name. name) (codes ".") (path_names defs receiver_name m path)
  path_told path n rest is =
      ap (λ path. leaf_path_text defs m (leaf_path (is_some m.param_self) path)) is ∙ input_named (field_names defs rest) m.param_self m.params n
      ∙ sym (ap (λ path. join_by (λ name. name) (codes ".") (path_names defs receiver_name m path)) is)

  -- one leaf, where it passes, before others
  one_told : (pass : Bool) (leaf : NamedLeaf) (leaves : List NamedLeaf) → printed_leaf leaf ≡ leaf_text leaf → map printed_leaf leaves ≡ map leaf_text leaves
      → map printed_leaf (cond pass (leaf ∷ leaves) leaves) ≡ map leaf_text (cond pass (leaf ∷ leaves) leaves)
  one_told true leaf leaves first others = ap (λ text. text ∷ map printed_leaf leaves) first ∙ ap (λ texts. leaf_text leaf ∷ texts) others
  one_told false leaf leaves first others = others

  some_told : (test : NamedLeaf → Bool) (leaves : List DeepLeaf) → Begin leaves
      → map printed_leaf (filter test (map named leaves)) ≡ map leaf_text (filter test (map named leaves))
  some_told test [] all = refl
  some_told test (leaf ∷ leaves) all =
      one_told (test (named leaf)) (named leaf) (filter test (map named leaves)) (path_told leaf.path all.0.0 all.0.1 all.0.2) (some_told test leaves all.1)

  -- the leaves that pass are printed by their names
  pub leaves_told : (test : NamedLeaf → Bool)
      → map printed_leaf (filter test (map named (method_leaves defs m))) ≡ map leaf_text (filter test (map named (method_leaves defs m)))
  leaves_told test = some_told test (method_leaves defs m) (begin_each (input_leaves (fields_in defs) m.lifetime_env.count) 0 (method_inputs m))
