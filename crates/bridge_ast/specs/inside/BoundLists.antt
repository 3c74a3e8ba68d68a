-- The bounds of an environment of lifetimes as lists of those that list a lifetime.
use Rattle.std.specs.Prelude.{◌≡◌, ℕ, List, [], length, ◌<◌, ◌≤◌, ◌↔◌, ◌⊎◌, slice_index_or}
use Rattle.std.specs.List.{All, Contains}
use Rattle.std.specs.List.Sorted.{IsNonDecreasing}
use Rattle.bridge_decl.specs.declared.lifetimes.LifetimeNode.{LifetimeNode}
use Rattle.bridge_ast.specs.declared.bounds.BoundLists.{BoundLists}
use Rattle.bridge_ast.specs.declared.bounds.Side.{Side}
use Rattle.bridge_ast.specs.declared.bounds.Side.TheVariants.{Longer, Shorter}
use Rattle.bridge_ast.specs.Bounds.{listed_at}

-- the numbers ascend, and none is above the last
pub record Ascends (last : ℕ) (numbers : List ℕ) : Type 0 where
  pub ascend : IsNonDecreasing numbers
  pub most : All (λ number. number ≤ last) numbers

-- each of the lists that stand at the places has the number too, and stays in order where that is the greatest
pub record AddsToEach (old new : List (List ℕ)) (places : List ℕ) (number : ℕ) : Type 0 where
  pub count : length new ≡ length old
  pub has : (place n : ℕ) → place < length old → Contains (slice_index_or new place []) n
      ↔ (Contains (slice_index_or old place []) n ⊎ ((n ≡ number) × Contains places place))
  pub ascends : (place : ℕ) → Ascends number (slice_index_or old place []) → Ascends number (slice_index_or new place [])

-- the list of each node has the nodes that list it on the side, and no others, in order
pub record AreListers (side : Side) (nodes : List LifetimeNode) (lists : List (List ℕ)) : Type 0 where
  pub count : length lists ≡ length nodes
  pub ascends : (to : ℕ) → IsNonDecreasing (slice_index_or lists to [])
  pub has : (from to : ℕ) → to < length nodes → Contains (slice_index_or lists to []) from
      ↔ Contains (listed_at side nodes from) to

-- the lists on both sides are those of the nodes
pub record HasBounds (bounds : BoundLists) (nodes : List LifetimeNode) : Type 0 where
  pub count : bounds.count ≡ length nodes
  pub longer : AreListers Longer nodes bounds.longer
  pub shorter : AreListers Shorter nodes bounds.shorter
