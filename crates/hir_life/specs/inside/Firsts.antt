-- Several lifetimes that are the first of a list that aren't among some others. The example throughout is the list a, b, a, c.
use Rattle.std.specs.Prelude.{ℕ, List, ◌++◌, ◌<◌, length, take, slice_index}
use Rattle.hir_life.specs.First.{IsFirstNotIn}

-- the same of each of these, one after another, once those before it were given too: where a was given, of b, c
abbrev pub AreFirstNotIn : List ℕ → List ℕ → List ℕ → Type 0
AreFirstNotIn given list ls = (i : ℕ) → i < length ls → IsFirstNotIn (given ++ take i ls) list (slice_index ls i)
