-- What the search's steps do to its fields.
use Rattle.std.specs.Prelude.{◌≡◌, ℕ, List, [], ◌∷◌, ◌++◌, ◌+◌, ◌-◌, ◌*◌, ◌<◌, ◌≤◌, length, map, sum, take, drop, slice_set, slice_index, slice_index_or}
use Rattle.definition_graph.specs.Reaching.{successors}
use Rattle.definition_graph.specs.inside.SearchState.{search_state, IsSearching, Settled}
use Rattle.definition_graph.specs.declared.search.Mark.{Mark}
use Rattle.definition_graph.specs.declared.search.Mark.TheVariants.{Unseen, Open, Done}
use Rattle.definition_graph.specs.declared.search.Search.{Search}

-- each node has its mark and its count of edges, and the search is on its way
pub record Holds (g : List (List ℕ)) (s : Search) : Type 0 where
  pub marks_each : length s.marks.items ≡ length g
  pub left_each : length s.left.items ≡ length g
  pub left_within : (v : ℕ) → slice_index s.left.items v ≤ length (successors g v)
  pub searching : IsSearching g (search_state s)

abbrev pub search_mark : Search → ℕ → Mark
search_mark s v = slice_index_or s.marks.items v Unseen

-- the top of the work
abbrev pub IsTop : List ℕ → ℕ → Type 0
IsTop work at = (0 < length work) × (at ≡ slice_index work (length work - 1))

-- what is still to be done
abbrev pub work_left : Search → ℕ
work_left s = 2 * sum s.left.items + length s.work.items

-- the potential: how many steps may follow, four for each edge that is left, and one for each place
abbrev pub potential : Search → ℕ
potential s = 4 * sum s.left.items + length s.work.items + length s.bounds.items + length s.path.items

-- a node goes to the end of the path, as a group of its own
pub record OpensNode (s : Search) (node : ℕ) (t : Search) : Type 0 where
  pub marks : t.marks.items ≡ slice_set s.marks.items node (Open (length s.path.items))
  pub left : t.left.items ≡ s.left.items
  pub path : t.path.items ≡ s.path.items ++ node ∷ []
  pub bounds : t.bounds.items ≡ s.bounds.items ++ length s.path.items ∷ []
  pub work : t.work.items ≡ s.work.items ++ length s.path.items ∷ []
  pub order : t.order.items ≡ s.order.items

-- the groups that begin after a place are joined to the one before them
pub record Joins (bounds : List ℕ) (place : ℕ) (after : List ℕ) : Type 0 where
  pub keep : ℕ
  pub enough : keep ≤ length bounds
  pub low : (k : ℕ) → k < keep → slice_index bounds k ≤ place
  pub high : (k : ℕ) → keep ≤ k → k < length bounds → place < slice_index bounds k
  pub short : after ≡ take keep bounds

-- the nodes of the path from a place on are marked as done
pub record MarksDone (path : List ℕ) (start stop c : ℕ) (old new : List Mark) : Type 0 where
  pub each : length new ≡ length old
  pub done : (i : ℕ) → start ≤ i → i < stop → slice_index_or new (slice_index path i) Unseen ≡ Done c
  pub others : (v : ℕ) → ((i : ℕ) → start ≤ i → i < stop → slice_index path i ≡ v → ⊥) → slice_index_or new v Unseen ≡ slice_index_or old v Unseen

-- and go to the order
pub record Emits (s : Search) (start : ℕ) (t : Search) : Type 0 where
  pub marks : MarksDone s.path.items start (length s.path.items) (length s.order.items) s.marks.items t.marks.items
  pub left : t.left.items ≡ s.left.items
  pub path : t.path.items ≡ take start s.path.items
  pub bounds : t.bounds.items ≡ s.bounds.items
  pub work : t.work.items ≡ s.work.items
  pub order : t.order.items ≡ s.order.items ++ drop start s.path.items

-- an edge from the top was looked at
pub record VisitsEdge (g : List (List ℕ)) (s : Search) (at target : ℕ) (t : Search) : Type 0 where
  pub holds : Holds g t
  pub left : t.left.items ≡ s.left.items
  pub settled : Settled t.bounds.items at (search_mark t target)
  pub still : (v i : ℕ) → search_mark s v ≡ Open i → search_mark t v ≡ Open i
  pub seen : (v : ℕ) → search_mark t v ≡ Unseen → search_mark s v ≡ Unseen
  pub more : length t.work.items ≤ length s.work.items + 1

-- a step that leaves less to do
pub record Proceeds (g : List (List ℕ)) (s t : Search) : Type 0 where
  pub holds : Holds g t
  pub seen : (v : ℕ) → search_mark t v ≡ Unseen → search_mark s v ≡ Unseen
  pub less : work_left t < work_left s

-- a search that has seen nothing
pub record SearchStarts (g : List (List ℕ)) (s : Search) : Type 0 where
  pub holds : Holds g s
  pub idle : length s.work.items ≡ 0
  pub full : s.left.items ≡ map (λ row. length row) g
  pub fresh : (length s.bounds.items ≡ 0) × (length s.path.items ≡ 0)

-- a search that has seen all
pub record SearchEnds (g : List (List ℕ)) (s : Search) : Type 0 where
  pub holds : Holds g s
  pub idle : length s.work.items ≡ 0
  pub all : (v : ℕ) → v < length g → search_mark s v ≡ Unseen → ⊥

-- the number of the component that a node belongs to
abbrev pub component_of_mark : Mark → ℕ
component_of_mark Unseen = 0
component_of_mark (Open i) = 0
component_of_mark (Done c) = c
