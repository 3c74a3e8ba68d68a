use Rattle.std.proofs.Common.{◌≡◌, ◌<◌, ◌≤◌, ◌+◌, [], length, slice_index_or}
use Rattle.hir_borrowing_fields.proofs.places.Places.depth.Given as goal

abbrev pub invariant-loop-parent : goal.invariant-loop-parent
invariant-loop-parent l = record {
  within : l.at < length l.self;
  fits : l.depth + l.at ≤ l.place + 1;
  counts : length (slice_index_or l.self l.place []) + 1 ≡ l.depth + length (slice_index_or l.self l.at []);
}

abbrev pub decreases-loop-parent : goal.decreases-loop-parent
decreases-loop-parent l = l.at
