-- The lifetimes that are declared to outlive others, as sets.
use Rattle.std.specs.Prelude.{◌≡◌, ℕ, List, Some, slice_get}
use Rattle.std.specs.BTreeSet as sorted
use Rattle.std.specs.BTreeSet.{BTreeSet}
use Rattle.std.specs.Ordering.{nat_cmp}
use Rattle.hir_life.specs.Environment.{Environment, longer_of}
use Rattle.hir_validation.specs.Lifetimes.{is_in_list}

-- the set has the lifetimes of the list
abbrev pub HoldsList : BTreeSet ℕ → List ℕ → Type 0
HoldsList set list = (l : ℕ) → sorted.contains nat_cmp set l ≡ is_in_list l list

-- each has those that are declared to outlive the lifetime of its number
abbrev pub AreLonger : Environment → List (BTreeSet ℕ) → Type 0
AreLonger env sets = (s : ℕ) (set : BTreeSet ℕ) → slice_get sets s ≡ Some set → HoldsList set (longer_of env s)
