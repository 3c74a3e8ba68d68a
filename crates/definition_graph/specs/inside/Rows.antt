-- The table in which a graph keeps the successors of its nodes.
use Rattle.std.specs.Prelude.{ℕ, List, map}
use Rattle.std.specs.Global.{Vec}

-- the rows of a table, as lists
abbrev pub rows_of : Vec (Vec ℕ) → List (List ℕ)
rows_of rows = map (λ (row : Vec ℕ). row.items) rows.items
