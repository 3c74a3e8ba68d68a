-- What stands in lists of names and of pairs.
use Rattle.std.specs.Prelude.{ℕ, List, Bool, ◌&&◌}
use Rattle.std.specs.List.{list_any}
use Rattle.std.specs.Str.{bytes_eq}

-- whether the text is one of the names
abbrev pub is_named : List (List ℕ) → List ℕ → Bool
is_named names text = list_any (λ name. bytes_eq name text) names

-- whether the name and the value are one of the pairs
abbrev pub is_paired : List (List ℕ × List ℕ) → List ℕ → List ℕ → Bool
is_paired pairs name value = list_any (λ pair. bytes_eq pair.0 name && bytes_eq pair.1 value) pairs
