-- A walk over keys, under each of which edges are added.
use Rattle.std.specs.Prelude.{◌≡◌, ◌≤◌, ◌<◌, ℕ, List, length, option_map, slice_index}
use Rattle.std.specs.List.{Contains}
use Rattle.std.specs.BTreeMap.{BTreeMap}
use Rattle.hir_borrowing_params.specs.Edges.{held_under, info_under}
use Rattle.hir_borrowing_params.specs.inside.Candidates.{with_edges}
use Rattle.hir_borrowing_params.specs.declared.candidates.EdgeCandidate.{EdgeCandidate}
use Rattle.hir_borrowing_params.specs.declared.edges.BorrowedLifetimeInfo.{BorrowedLifetimeInfo}

-- edges were added under the first so many keys, and all else is as before
pub record PushedUpTo (name : List ℕ) (cs : List EdgeCandidate) (keys : List ℕ) (count : ℕ) (old new : BTreeMap ℕ BorrowedLifetimeInfo) : Type 0 where
  pub done : (i : ℕ) → i < count → held_under new (slice_index keys i) ≡ option_map (with_edges name cs) (held_under old (slice_index keys i))
  pub rest : (i : ℕ) → count ≤ i → i < length keys → info_under new (slice_index keys i) ≡ info_under old (slice_index keys i)
  pub others : (t : ℕ) → (Contains keys t → ⊥) → info_under new t ≡ info_under old t
