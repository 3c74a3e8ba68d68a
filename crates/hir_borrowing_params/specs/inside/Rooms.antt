-- Room for edges.
use Rattle.std.specs.Prelude.{◌≤◌, ◌+◌, ℕ, length, IfSome, vec_capacity}
use Rattle.std.specs.BTreeMap.{BTreeMap}
use Rattle.hir_borrowing_params.specs.Edges.{info_under}
use Rattle.hir_borrowing_params.specs.declared.edges.BorrowedLifetimeInfo.{BorrowedLifetimeInfo}

-- there is room for so many edges more
abbrev pub HasRoom : ℕ → BorrowedLifetimeInfo → Type 0
HasRoom more info = length info.incoming_edges.items + more ≤ vec_capacity info.incoming_edges

-- the same under a key, where it is one
abbrev pub HasRoomUnder : BTreeMap ℕ BorrowedLifetimeInfo → ℕ → ℕ → Type 0
HasRoomUnder m more t = IfSome (info_under m t) (HasRoom more)
