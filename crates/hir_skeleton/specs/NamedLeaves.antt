-- The leaves of the inputs of a method with the names along their paths. In the example of `Skeletons` there is one leaf: it has the path
-- 0, 0 with the names `mark`, `page`, and carries 'a and 'b.
use Rattle.std.specs.Prelude.{ℕ, List, map}
use Rattle.hir_life.specs.declared.maybe_static.MaybeStatic.{MaybeStatic}
use Rattle.hir_definitions.specs.declared.methods.Method.{Method}
use Rattle.hir_context.specs.declared.parts.Definitions.{Definitions}
use Rattle.hir_skeleton.specs.Leaves.{DeepLeaf}
use Rattle.hir_skeleton.specs.Inputs.{method_leaves, path_names}

-- a leaf: the number of its input and then those of the fields that lead to it, the names of all these, and what it carries
pub record NamedLeaf : Type 0 where
  pub path : List ℕ
  pub names : List (List ℕ)
  pub carried : List (MaybeStatic ℕ)

-- a leaf with the names of its path
abbrev pub leaf_named : (List ℕ → List (List ℕ)) → DeepLeaf → NamedLeaf
leaf_named names leaf = record { path = leaf.path; names = names leaf.path; carried = leaf.carried }

-- all leaves of the inputs of a method, in order, where the receiver has this name
abbrev pub borrowing_leaves : Definitions → List ℕ → Method → List NamedLeaf
borrowing_leaves defs self_name m = map (leaf_named (path_names defs self_name m)) (method_leaves defs m)
