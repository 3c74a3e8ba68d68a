-- A search on its way.
use Rattle.std.specs.Prelude.{◌≡◌, ℕ, List, ◌<◌, ◌≤◌, length, slice_index, slice_index_or}
use Rattle.definition_graph.specs.Reaching.{successors, Leads}
use Rattle.definition_graph.specs.declared.search.Mark.{Mark}
use Rattle.definition_graph.specs.declared.search.Mark.TheVariants.{Unseen, Open, Done}
use Rattle.definition_graph.specs.declared.search.Search.{Search}

-- the search as lists and functions: the mark of each node, how many of its edges were not followed yet, the path, the places
-- in it where a group begins, the places in it whose nodes may have edges left, and the nodes that are done
pub record SearchState : Type 0 where
  pub mark : ℕ → Mark
  pub left : ℕ → ℕ
  pub path : List ℕ
  pub bounds : List ℕ
  pub work : List ℕ
  pub order : List ℕ

abbrev pub search_state : Search → SearchState
search_state s =
    record {
      mark = λ v. slice_index_or s.marks.items v Unseen;
      left = λ v. slice_index s.left.items v;
      path = s.path.items;
      bounds = s.bounds.items;
      work = s.work.items;
      order = s.order.items;
    }

-- no group begins between place j and a later place i
abbrev pub Joined : List ℕ → ℕ → ℕ → Type 0
Joined bounds i j = (k : ℕ) → k < length bounds → slice_index bounds k ≤ i → slice_index bounds k ≤ j

-- a node that an edge leads to from place i: it is done, or stands in the group of i or a later one
abbrev pub Settled : List ℕ → ℕ → Mark → Type 0
Settled bounds i Unseen = ⊥
Settled bounds i (Open j) = Joined bounds i j
Settled bounds i (Done d) = Unit {0}

-- done, in this component or an earlier one
abbrev pub DoneBy : ℕ → Mark → Type 0
DoneBy c Unseen = ⊥
DoneBy c (Open j) = ⊥
DoneBy c (Done d) = d ≤ c

abbrev pub Rising : List ℕ → Type 0
Rising xs = (j k : ℕ) → j < k → k < length xs → slice_index xs j < slice_index xs k

-- x stands in the list
abbrev pub Stands : List ℕ → ℕ → Type 0
Stands xs x = (k : ℕ) × (k < length xs) × (slice_index xs k ≡ x)

pub record IsSearching (g : List (List ℕ)) (s : SearchState) : Type 0 where
  -- the path and the marks agree
  pub on_path : (i : ℕ) → i < length s.path → s.mark (slice_index s.path i) ≡ Open i
  pub within : (i : ℕ) → i < length s.path → slice_index s.path i < length g
  pub opened : (v i : ℕ) → s.mark v ≡ Open i → (i < length s.path) × (slice_index s.path i ≡ v)
  -- what is joined leads there, and each edge that was followed joins
  pub leads : (i j : ℕ) → i < length s.path → j < length s.path → Joined s.bounds i j → Leads g (slice_index s.path i) (slice_index s.path j)
  pub settled : (v i k : ℕ) → s.mark v ≡ Open i → s.left v ≤ k → k < length (successors g v) → Settled s.bounds i (s.mark (slice_index (successors g v) k))
  -- the nodes that are done
  pub closed : (v c k : ℕ) → s.mark v ≡ Done c → k < length (successors g v) → DoneBy c (s.mark (slice_index (successors g v) k))
  pub both_ways : (v w c : ℕ) → s.mark v ≡ Done c → s.mark w ≡ Done c → Leads g v w
  pub below : (v c : ℕ) → s.mark v ≡ Done c → c < length s.order
  pub listed : (v c : ℕ) → s.mark v ≡ Done c → Stands s.order v
  pub all_done : (k : ℕ) → k < length s.order → (c : ℕ) × (s.mark (slice_index s.order k) ≡ Done c)
  pub ordered : (j k c : ℕ) → j ≤ k → k < length s.order → s.mark (slice_index s.order k) ≡ Done c → DoneBy c (s.mark (slice_index s.order j))
  pub once : (j k : ℕ) → j < k → k < length s.order → slice_index s.order j ≡ slice_index s.order k → ⊥
  -- the bookkeeping
  pub untouched : (v : ℕ) → s.mark v ≡ Unseen → s.left v ≡ length (successors g v)
  pub rising : Rising s.work
  pub in_path : (k : ℕ) → k < length s.work → slice_index s.work k < length s.path
  pub bounds_rise : Rising s.bounds
  pub bounds_work : (k : ℕ) → k < length s.bounds → Stands s.work (slice_index s.bounds k)
  pub unfinished : (v i : ℕ) → s.mark v ≡ Open i → 0 < s.left v → Stands s.work i
  pub first : 0 < length s.path → (0 < length s.bounds) × (slice_index s.bounds 0 ≡ 0)
