-- Sets of pairs of numbers.
use Rattle.std.specs.Prelude.{ℕ, IsTrue}
use Rattle.std.specs.declared.cmp.Ordering.{Ordering}
use Rattle.std.specs.Ordering.{nat_cmp, ordering_then}
use Rattle.std.specs.BTreeSet.{BTreeSet, contains}

-- pairs in order, by their first parts and then by their second parts
abbrev pub pair_cmp : ℕ × ℕ → ℕ × ℕ → Ordering
pair_cmp one other = ordering_then (nat_cmp one.0 other.0) (nat_cmp one.1 other.1)

-- the set has the pair
abbrev pub HasPair : BTreeSet (ℕ × ℕ) → ℕ → ℕ → Type 0
HasPair pairs from to = IsTrue (contains pair_cmp pairs (from, to))
