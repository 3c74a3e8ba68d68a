use Rattle.std.proofs.Common.{◌<◌, [], length, slice_index_or}
use Rattle.hir_borrowing_fields.specs.inside.Places.{IsAbove}
use Rattle.hir_borrowing_fields.proofs.places.Places.above.Given as goal

abbrev pub invariant-loop : goal.invariant-loop
invariant-loop l = record {
  within : l.at < length l.self;
  steps : IsAbove (slice_index_or l.self l.place []) l.counter (slice_index_or l.self l.at []);
}
