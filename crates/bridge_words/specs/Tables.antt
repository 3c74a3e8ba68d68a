-- Tables of words as code has them.
use Rattle.std.specs.Borrow.{Bor}
use Rattle.std.specs.Prelude.{ℕ, List, map}

-- the words that a table of code has, each with its value
abbrev pub all_written : {W : Type 0} → List (Bor (List ℕ) × W) → List (List ℕ × W)
all_written words = map (λ word. (word.0.now, word.1)) words
