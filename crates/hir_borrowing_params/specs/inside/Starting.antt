-- What is kept of several lifetimes at first.
use Rattle.std.specs.Prelude.{◌≡◌, ◌≢◌, ◌↔◌, ℕ, List, Bool, Some, IsSome, slice_get}
use Rattle.std.specs.List.{Contains}
use Rattle.std.specs.BTreeMap.{BTreeMap}
use Rattle.hir_life.specs.Environment.{Environment}
use Rattle.hir_borrowing_params.specs.Answering.{some_passes}
use Rattle.hir_borrowing_params.specs.Edges.{held_for, info_under}
use Rattle.hir_borrowing_params.specs.Keys.{IsStart}
use Rattle.hir_borrowing_params.specs.declared.edges.BorrowedLifetimeInfo.{BorrowedLifetimeInfo}

-- whether the lifetime has a flag that is set
abbrev pub flag_at : List Bool → ℕ → Bool
flag_at flags l = some_passes (λ flag. flag) (slice_get flags l)

-- the map has these keys and no others, and nothing is held for them yet
pub record StartsAt (env : Environment) (keys : List ℕ) (m : BTreeMap ℕ BorrowedLifetimeInfo) : Type 0 where
  pub keyed : (t : ℕ) → (IsSome (info_under m t) ↔ Contains keys t)
  pub each : (t : ℕ) (info : BorrowedLifetimeInfo) → info_under m t ≡ Some info → IsStart env t (held_for info)

-- one key is added, for which nothing is held, and the others stay
pub record AddsStart (env : Environment) (key : ℕ) (old new : BTreeMap ℕ BorrowedLifetimeInfo) : Type 0 where
  pub info : BorrowedLifetimeInfo
  pub here : info_under new key ≡ Some info
  pub start : IsStart env key (held_for info)
  pub others : (t : ℕ) → t ≢ key → info_under new t ≡ info_under old t
