-- The strongly connected components of a graph: the groups of nodes that lead to one another.
use Rattle.std.specs.Prelude.{◌≡◌, ℕ, List, ◌<◌, ◌≤◌, length, slice_index}
use Rattle.definition_graph.specs.Reaching.{Edge, IsGraph, Leads}
use Rattle.definition_graph.specs.inside.SearchState.{Stands}

-- each node has the number of its component, which never rises along an edge; nodes with one number lead to one another; and
-- the order has each node, by the numbers
pub record AreComponents (g : List (List ℕ)) (number order : List ℕ) : Type 0 where
  pub sound : IsGraph g
  pub each : length number ≡ length g
  pub falls : (a b : ℕ) → Edge g a b → slice_index number b ≤ slice_index number a
  pub both_ways : (a b : ℕ) → a < length g → b < length g → slice_index number a ≡ slice_index number b → Leads g a b
  pub listed : (a : ℕ) → a < length g → Stands order a
  pub within : (k : ℕ) → k < length order → slice_index order k < length g
  pub ordered : (j k : ℕ) → j ≤ k → k < length order → slice_index number (slice_index order j) ≤ slice_index number (slice_index order k)
  pub once : (j k : ℕ) → j < k → k < length order → slice_index order j ≡ slice_index order k → ⊥
