-- What names stand for, and where they stand in a list.
use Rattle.std.specs.Prelude.{◌≡◌, ◌≢◌, ℕ, suc, List, [], ◌∷◌, Option, Some, None, option_map, if◌then◌else◌}
use Rattle.std.specs.List.{AllPairs}
use Rattle.std.specs.Str.{bytes_eq}
use Rattle.std.specs.Ordering.{nat_cmp}
use Rattle.std.specs.Cmp.Lexicographic.{slice_cmp}
use Rattle.std.specs.BTreeMap.{BTreeMap, get}

-- what a name stands for, by the first that has it
abbrev pub meaning_of : {V : Type 0} → List (List ℕ × V) → List ℕ → Option V
meaning_of [] name = None
meaning_of (first ∷ others) name = if bytes_eq first.0 name then Some first.1 else meaning_of others name

-- the place of a name, the first where it stands twice
abbrev pub number_of : List (List ℕ) → List ℕ → Option ℕ
number_of [] name = None
number_of (first ∷ names) name = if bytes_eq first name then Some 0 else option_map suc (number_of names name)

-- the map has each name with what it stands for, and nothing else
pub record HasMeanings {V : Type 0} (index : BTreeMap (List ℕ) V) (named : List (List ℕ × V)) : Type 0 where
  pub finds : (name : List ℕ) → get (slice_cmp nat_cmp) index name ≡ meaning_of named name

-- the map has each name with its place, and nothing else
pub record Indexes (index : BTreeMap (List ℕ) ℕ) (names : List (List ℕ)) : Type 0 where
  pub finds : (name : List ℕ) → get (slice_cmp nat_cmp) index name ≡ number_of names name

-- no two entries are equal
abbrev pub AreDistinct : List (List ℕ) → Type 0
AreDistinct texts = AllPairs (λ earlier later. earlier ≢ later) texts
