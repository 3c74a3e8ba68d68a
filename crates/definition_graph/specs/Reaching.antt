-- Which nodes of a graph reach which. Nodes are numbers, and `successors g a` is the list of the nodes that edges lead to from a.
-- The example throughout is the graph of the crate's head: 0 has the successors 1 and 3, 1 has 2, 2 has 1, and 3 has none.
use Rattle.std.specs.Prelude.{◌≡◌, ℕ, List, [], ◌∷◌, ◌<◌, length, sum_by, slice_index_or}
use Rattle.std.specs.List.{Contains}

-- the nodes that the edges of a lead to, in their order and with repetitions
abbrev pub successors : List (List ℕ) → ℕ → List ℕ
successors g a = slice_index_or g a []

-- an edge leads from a to b
abbrev pub Edge : List (List ℕ) → ℕ → ℕ → Type 0
Edge g a b = Contains (successors g a) b

-- each edge leads to a node
abbrev pub IsGraph : List (List ℕ) → Type 0
IsGraph g = (a b : ℕ) → Edge g a b → b < length g

-- a and the nodes of the list after it end with b, and an edge leads from each to the next: 0, 1, 2, 1
abbrev pub ChainLeads : List (List ℕ) → ℕ → List ℕ → ℕ → Type 0
ChainLeads g a [] b = a ≡ b
ChainLeads g a (m ∷ rest) b = Edge g a m × ChainLeads g m rest b

-- some chain of edges leads from a to b, or a is b
pub record Leads (g : List (List ℕ)) (a b : ℕ) : Type 0 where
  pub chain : List ℕ
  pub linked : ChainLeads g a chain b

-- some chain of at least one edge leads from a to b: 1 and 2 reach themselves, and 0 reaches all but itself
pub record ReachesByEdges (g : List (List ℕ)) (a b : ℕ) : Type 0 where
  pub next : ℕ
  pub chain : List ℕ
  pub linked : ChainLeads g a (next ∷ chain) b

-- how many edges there are: 4
abbrev pub edge_count : List (List ℕ) → ℕ
edge_count g = sum_by (λ row. length row) g
