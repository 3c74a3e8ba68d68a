-- Room that is made for a list of lifetimes before any is lowered.
use Rattle.std.specs.Prelude.{◌≡◌, ℕ, ◌≤◌, []}
use Rattle.hir_life.specs.declared.maybe_static.MaybeStatic.{MaybeStatic}
use Rattle.smallvec.specs.SmallVec.{SmallVec}

-- nothing stands in it, and so many have room
abbrev pub IsRoomFor : ℕ → SmallVec (MaybeStatic ℕ) → Type 0
IsRoomFor count room = (room.items ≡ []) × (count ≤ room.capacity)
