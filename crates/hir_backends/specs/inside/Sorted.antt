-- Lists that are kept sorted besides.
use Rattle.std.specs.Prelude.{ℕ, List}
use Rattle.std.specs.declared.cmp.Ordering.{Ordering}
use Rattle.std.specs.Ordering.{nat_cmp, ordering_then}
use Rattle.std.specs.Cmp.Lexicographic.{slice_cmp}
use Rattle.std.specs.List.Sorted.{IsPermutation, IsSorted}

-- the second list has the elements of the first, in the order
pub record IsSortedCopy {T : Type 0} (cmp : T → T → Ordering) (items sorted : List T) : Type 0 where
  pub same : IsPermutation items sorted
  pub rising : IsSorted cmp sorted

-- pairs by their names, and by their values where these are the same
abbrev pub texts_cmp : List ℕ × List ℕ → List ℕ × List ℕ → Ordering
texts_cmp first second = ordering_then (slice_cmp nat_cmp first.0 second.0) (slice_cmp nat_cmp first.1 second.1)
