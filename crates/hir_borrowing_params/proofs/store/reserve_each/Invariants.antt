use Rattle.std.proofs.Common.{◌≡◌, ℕ, take}
use Rattle.std.specs.List.{All}
use Rattle.hir_borrowing_params.specs.Edges.{held_under}
use Rattle.hir_borrowing_params.specs.inside.Rooms.{HasRoomUnder}
use Rattle.hir_borrowing_params.proofs.store.reserve_each.Given as goal

abbrev pub invariant-loop-key : goal.invariant-loop-key
invariant-loop-key l = record {
  same : (t : ℕ) → held_under l.map t ≡ held_under l.initial.map t;
  room : All (HasRoomUnder l.map l.more) (take l.key-index l.keys);
}
