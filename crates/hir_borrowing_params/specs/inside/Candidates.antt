-- What of an input may be held, each with the lifetimes of which one has to count.
use Rattle.std.specs.Prelude.{◌≢◌, ◌<◌, ℕ, List, [], ◌∷◌, ◌++◌, Bool, cond, Option, Some, None, length, map, slice_index}
use Rattle.std.specs.List.{enumerate_from, filter_map, list_any}
use Rattle.std.specs.BTreeMap.{BTreeMap}
use Rattle.std.specs.Prelude.{IsSome, IsTrue, nat_eq}
use Rattle.hir_life.specs.Environment.{Environment}
use Rattle.hir_life.specs.declared.maybe_static.MaybeStatic.{MaybeStatic}
use Rattle.hir_parts.specs.Parts.{carried_by}
use Rattle.hir_skeleton.specs.Leaves.{number_passes}
use Rattle.hir_borrowing_params.specs.Answering.{some_passes}
use Rattle.hir_borrowing_params.specs.Edges.{EdgeKind, HeldFor, OfStruct, holding, info_under, is_in, kind_shown, whole_kind}
use Rattle.hir_borrowing_params.specs.declared.candidates.EdgeCandidate.{EdgeCandidate}
use Rattle.hir_borrowing_params.specs.declared.edges.BorrowedLifetimeInfo.{BorrowedLifetimeInfo}

-- the lifetimes of which one has to count
abbrev pub candidate_lifetimes : EdgeCandidate → List (MaybeStatic ℕ)
candidate_lifetimes c = carried_by c.own c.element c.given.now

-- whether one of them passes
abbrev pub candidate_passes : (ℕ → Bool) → EdgeCandidate → Bool
candidate_passes test c = list_any (number_passes test) (candidate_lifetimes c)

-- what is held then
abbrev pub kind_under : (ℕ → Bool) → EdgeCandidate → Option EdgeKind
kind_under test c = cond (candidate_passes test c) (Some (kind_shown c.kind)) None

-- what is held of several
abbrev pub kinds_under : List EdgeCandidate → (ℕ → Bool) → List EdgeKind
kinds_under cs test = filter_map (kind_under test) cs

-- the same, where these are held besides by this name
abbrev pub with_edges : List ℕ → List EdgeCandidate → HeldFor → HeldFor
with_edges name cs h = holding name (kinds_under cs) h

-- whether the edge is there under a key
abbrev pub passes_under : BTreeMap ℕ BorrowedLifetimeInfo → ℕ → EdgeCandidate → Bool
passes_under m t c = some_passes (λ info. candidate_passes (is_in info.all_longer_lifetimes) c) (info_under m t)

-- which keys an edge has
abbrev pub keys_of : BTreeMap ℕ BorrowedLifetimeInfo → EdgeCandidate → ℕ → Bool
keys_of m c t = passes_under m t c

-- no number stands twice
abbrev pub AreApart : List ℕ → Type 0
AreApart keys = (i j : ℕ) → i < j → j < length keys → slice_index keys i ≢ slice_index keys j

-- the list has each key of the map, and none twice
pub record IsKeyed (keys : List ℕ) (m : BTreeMap ℕ BorrowedLifetimeInfo) : Type 0 where
  pub apart : AreApart keys
  pub all : (t : ℕ) → IsSome (info_under m t) → IsTrue (list_any (nat_eq t) keys)

-- the lifetimes, and what may be held
pub record Candidate : Type 0 where
  pub lifetimes : List (MaybeStatic ℕ)
  pub kind : EdgeKind

abbrev pub candidate_shown : EdgeCandidate → Candidate
candidate_shown c = record { lifetimes = candidate_lifetimes c; kind = kind_shown c.kind }

-- of a struct, what it borrows for its lifetime of this number, for which this one stands
abbrev pub struct_candidate : Environment → Bool → ℕ × MaybeStatic ℕ → Candidate
struct_candidate env optional arg = record { lifetimes = arg.1 ∷ []; kind = OfStruct env arg.0 optional }

-- the edges of a carrier that is a slice or isn't
abbrev pub whole_edges : Bool → List (MaybeStatic ℕ) → (ℕ → Bool) → List EdgeKind
whole_edges is_slice lifetimes test = cond (list_any (number_passes test) lifetimes) (whole_kind is_slice ∷ []) []

-- the edges of a struct that stands in an option or doesn't
abbrev pub candidate_kind : (ℕ → Bool) → Candidate → Option EdgeKind
candidate_kind test c = cond (list_any (number_passes test) c.lifetimes) (Some c.kind) None

abbrev pub struct_edges : Environment → Bool → List (MaybeStatic ℕ) → (ℕ → Bool) → List EdgeKind
struct_edges env optional args test = filter_map (candidate_kind test) (map (struct_candidate env optional) (enumerate_from 0 args))
