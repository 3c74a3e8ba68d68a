-- What a walk has found so far.
use Rattle.std.specs.Prelude.{◌≡◌, ◌<◌, ℕ, List, [], ◌++◌, length, map, slice_index_or}
use Rattle.std.specs.List.{All}
use Rattle.hir_life.specs.declared.maybe_static.MaybeStatic.{MaybeStatic}
use Rattle.hir_skeleton.specs.NamedLeaves.{NamedLeaf}
use Rattle.hir_borrowing_fields.specs.declared.found.FoundLeaf.{FoundLeaf}
use Rattle.hir_borrowing_fields.specs.inside.Places.{Step, step_names, step_numbers}

-- the steps that lead to each place, and the leaves
pub record Findings : Type 0 where
  pub places : List (List Step)
  pub leaves : List NamedLeaf

-- the leaf to which these steps lead, and which carries these
abbrev pub leaf_behind : List Step → List (MaybeStatic ℕ) → NamedLeaf
leaf_behind steps carried = record { path = step_numbers steps; names = step_names steps; carried = carried }

-- a leaf with the steps that lead to its place
abbrev pub leaf_placed : List (List Step) → FoundLeaf → NamedLeaf
leaf_placed places leaf = leaf_behind (slice_index_or places leaf.place []) leaf.carried

-- each of several
abbrev pub leaves_placed : List (List Step) → List FoundLeaf → List NamedLeaf
leaves_placed places leaves = map (leaf_placed places) leaves

-- the place of each leaf is there
abbrev pub ArePlaced : List (List Step) → List FoundLeaf → Type 0
ArePlaced places leaves = All (λ leaf. leaf.place < length places) leaves

-- the places are there as before, and maybe others behind them
abbrev pub Extends : List (List Step) → List (List Step) → Type 0
Extends old new = (more : List (List Step)) × (new ≡ old ++ more)

-- these leaves were found besides
pub record FindsMore (old new : Findings) (more : List NamedLeaf) : Type 0 where
  pub leaves : new.leaves ≡ old.leaves ++ more
  pub places : Extends old.places new.places
