-- The paths of leaves, one leaf after another. The names of leaves don't count.
use Rattle.std.proofs.Common.{◌≡◌, ◌++◌, ◌+◌, ℕ, zero, suc, List, [], ◌∷◌, Bool, true, false, cond, map, drop, refl, sym, ap, ◌∙◌, arith, slice_get}
use Rattle.std.proofs.lemmas.List.{append_assoc}
use Rattle.std.specs.List.{filter}
use Rattle.hir_context.specs.declared.parts.Definitions.{Definitions}
use Rattle.hir_definitions.specs.declared.methods.Method.{Method}
use Rattle.hir_mentions.specs.Mentions.{where_any}
use Rattle.hir_skeleton.specs.Inputs.{method_leaves, path_names}
use Rattle.hir_skeleton.specs.Leaves.{DeepLeaf}
use Rattle.hir_skeleton.specs.NamedLeaves.{NamedLeaf, borrowing_leaves, leaf_named}
use Rattle.bridge_report.specs.Borrowings.{leaf_path, passes}
use Rattle.bridge_report.specs.declared.report.LeafPath.{LeafPath}
use Rattle.bridge_borrow.specs.inside.Returned.{passing_paths}

module _ (receiver : Bool) (test : ℕ → Bool) where
  abbrev path_of : NamedLeaf → LeafPath
  path_of leaf = leaf_path receiver leaf.path

  -- ---- one after another

  next_by : (b : Bool) (leaf : NamedLeaf) (rest : List NamedLeaf) → map path_of (cond b (leaf ∷ rest) rest) ≡ map path_of (cond b (leaf ∷ []) []) ++ map path_of rest
  next_by true leaf rest = refl
  next_by false leaf rest = refl

  pub paths_from : (leaves : List NamedLeaf) (i : ℕ)
      → passing_paths receiver test (drop i leaves)
      ≡ where_any (λ leaf. passing_paths receiver test (leaf ∷ [])) (slice_get leaves i) ++ passing_paths receiver test (drop (suc i) leaves)
  paths_from [] zero = refl
  paths_from [] (suc i) = refl
  paths_from (leaf ∷ leaves) zero = next_by (passes test leaf) leaf (filter (passes test) leaves)
  paths_from (leaf ∷ leaves) (suc i) = paths_from leaves i

  -- with the paths of the leaf at a place the rest is what is left after it
  pub paths_next : (leaves : List NamedLeaf) (i : ℕ) (before after all : List LeafPath)
      → after ≡ before ++ where_any (λ leaf. passing_paths receiver test (leaf ∷ [])) (slice_get leaves i)
      → before ++ passing_paths receiver test (drop i leaves) ≡ all → after ++ passing_paths receiver test (drop (i + 1) leaves) ≡ all
  paths_next leaves i before after all is so_far =
      let e : i + 1 ≡ suc i = omega arith in
      let one = where_any (λ leaf. passing_paths receiver test (leaf ∷ [])) (slice_get leaves i) in
      let rest = passing_paths receiver test (drop (suc i) leaves) in
      ap (λ n. after ++ passing_paths receiver test (drop n leaves)) e ∙ ap (λ ps. ps ++ rest) is ∙ append_assoc before one rest
      ∙ ap (λ ps. before ++ ps) (sym (paths_from leaves i)) ∙ so_far

  -- ---- names

  same_by : (b : Bool) (x y : NamedLeaf) (xs ys : List NamedLeaf) → path_of x ≡ path_of y → map path_of xs ≡ map path_of ys
      → map path_of (cond b (x ∷ xs) xs) ≡ map path_of (cond b (y ∷ ys) ys)
  same_by true x y xs ys first rest = ap (λ p. p ∷ map path_of xs) first ∙ ap (λ ps. path_of y ∷ ps) rest
  same_by false x y xs ys first rest = rest

  same_leaves : (f g : List ℕ → List (List ℕ)) (leaves : List DeepLeaf)
      → passing_paths receiver test (map (leaf_named f) leaves) ≡ passing_paths receiver test (map (leaf_named g) leaves)
  same_leaves f g [] = refl
  same_leaves f g (leaf ∷ leaves) = same_by (passes test (leaf_named g leaf)) (leaf_named f leaf) (leaf_named g leaf) _ _ refl (same_leaves f g leaves)

  -- whatever the receiver is called
  pub same_paths : (defs : Definitions) (m : Method) (one other : List ℕ)
      → passing_paths receiver test (borrowing_leaves defs one m) ≡ passing_paths receiver test (borrowing_leaves defs other m)
  same_paths defs m one other = same_leaves (path_names defs one m) (path_names defs other m) (method_leaves defs m)
