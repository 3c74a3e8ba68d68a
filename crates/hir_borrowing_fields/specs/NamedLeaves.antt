-- What visitors ask of the leaves of the inputs of a method, which `NamedLeaves` of `hir_skeleton` defines. In the example there
-- one leaf stands at `mark.page`, and carries 'a and 'b.
use Rattle.std.specs.Prelude.{ℕ, List, [], map, slice_index_or}
use Rattle.std.specs.List.{flat_map}
use Rattle.hir_life.specs.declared.maybe_static.MaybeStatic.{MaybeStatic}
use Rattle.hir_skeleton.specs.NamedLeaves.{NamedLeaf}

-- the leaf of this number; past the last there is nothing
abbrev pub leaf_at : List NamedLeaf → ℕ → NamedLeaf
leaf_at leaves i = slice_index_or leaves i (record { path = []; names = []; carried = [] })

-- each leaf with each lifetime that it carries, in order: 'a with `mark.page`, and 'b with it
abbrev pub lifetimes_with_leaves : List NamedLeaf → List (MaybeStatic ℕ × NamedLeaf)
lifetimes_with_leaves leaves = flat_map (λ leaf. map (λ l. (l, leaf)) leaf.carried) leaves
