-- Sums over all that a node leads to, each as often as it is held. The example throughout is a graph in which 0 has the successor 1
-- twice, and 1 has none; with 1 of its own each, 1 holds 1 and 0 holds 3.
use Rattle.std.specs.Prelude.{◌≡◌, ℕ, zero, suc, List, ◌+◌, ◌<◌, ◌≤◌, min, sum_by, length, slice_index}
use Rattle.definition_graph.specs.Reaching.{successors}
use Rattle.definition_graph.specs.Surveying.{IsLongestChain}

-- what a holds down to so many levels: its own, and what each of its successors holds
abbrev pub held_within : List (List ℕ) → List ℕ → ℕ → ℕ → ℕ
held_within g own zero a = 0
held_within g own (suc levels) a = slice_index own a + sum_by (held_within g own levels) (successors g a)

-- of each node that leads to no cycle there is what it holds on all levels, or the limit where this is more
pub record AreTotals (g : List (List ℕ)) (own : List ℕ) (limit : ℕ) (totals : List ℕ) : Type 0 where
  pub each : length totals ≡ length g
  pub right :
      (a nodes levels : ℕ) → a < length g → IsLongestChain g a nodes → nodes ≤ levels
      → slice_index totals a ≡ min limit (held_within g own levels a)
