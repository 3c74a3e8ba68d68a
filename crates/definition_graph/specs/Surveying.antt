-- What is known of each node of a graph. The example throughout is the graph of the crate's head: 0 has the successors 1 and 3, 1 has
-- 2, 2 has 1, and 3 has none. So 1 and 2 reach themselves, and 0 leads to them.
use Rattle.std.specs.Prelude.{◌≡◌, ℕ, List, [], ◌∷◌, ◌+◌, ◌<◌, ◌≤◌, ◌↔◌, min, Option, Some, None, Bool, false, IsTrue, length, slice_index, slice_index_or}
use Rattle.definition_graph.specs.Reaching.{Edge, Leads, ReachesByEdges}

-- a and the nodes of the list after it are a chain: an edge leads from each to the next
abbrev pub IsChain : List (List ℕ) → ℕ → List ℕ → Type 0
IsChain g a [] = Unit {0}
IsChain g a (m ∷ rest) = Edge g a m × IsChain g m rest

-- a longest chain from a has n nodes: from 3 it has one, and from 0 there is no longest
pub record IsLongestChain (g : List (List ℕ)) (a n : ℕ) : Type 0 where
  pub rest : List ℕ
  pub chain : IsChain g a rest
  pub count : length rest + 1 ≡ n
  pub most : (other : List ℕ) → IsChain g a other → length other + 1 ≤ n

-- the depth of a: none where a leads to a node that reaches itself, as 0, 1 and 2 do, and else how many nodes a longest chain
-- from a has, or 257 where it has more
abbrev pub IsDepth : List (List ℕ) → ℕ → Option ℕ → Type 0
IsDepth g a None = (r : ℕ) × Leads g a r × ReachesByEdges g r r
IsDepth g a (Some d) = (n : ℕ) × IsLongestChain g a n × (d ≡ min n 257)

-- there is a flag for each node, which is set exactly where the node reaches itself: false, true, true, false
pub record FlagsReachingItself (g : List (List ℕ)) (flags : List Bool) : Type 0 where
  pub each : length flags ≡ length g
  pub right : (a : ℕ) → a < length g → (IsTrue (slice_index_or flags a false) ↔ ReachesByEdges g a a)

-- the order has each node once, and each that doesn't reach itself stands after all its successors: 3, 2, 1, 0
pub record IsReverseTopological (g : List (List ℕ)) (order : List ℕ) : Type 0 where
  pub listed : (a : ℕ) → a < length g → (k : ℕ) × (k < length order) × (slice_index order k ≡ a)
  pub within : (k : ℕ) → k < length order → slice_index order k < length g
  pub once : (j k : ℕ) → j < k → k < length order → slice_index order j ≡ slice_index order k → ⊥
  pub after :
      (k b : ℕ) → k < length order → (ReachesByEdges g (slice_index order k) (slice_index order k) → ⊥)
      → Edge g (slice_index order k) b → (j : ℕ) × (j < k) × (slice_index order j ≡ b)

-- there is a depth for each node: none, none, none, 1
pub record AreDepths (g : List (List ℕ)) (depths : List (Option ℕ)) : Type 0 where
  pub each : length depths ≡ length g
  pub right : (a : ℕ) → a < length g → IsDepth g a (slice_index_or depths a None)
