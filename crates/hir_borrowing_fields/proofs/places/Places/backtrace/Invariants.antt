use Rattle.std.proofs.Common.{[], take, slice_index_or}
use Rattle.std.specs.List.{FoldsTo, enumerate_from}
use Rattle.hir_borrowing_fields.specs.Calls.{CalledAtName}
use Rattle.hir_borrowing_fields.specs.inside.Places.{step_names}
use Rattle.hir_borrowing_fields.proofs.places.Places.backtrace.Given as goal

abbrev pub invariant-loop-number : goal.invariant-loop-number
invariant-loop-number g l = record {
  callable : goal.F-IsAlwaysCallable g l.visit;
  called : FoldsTo (λ p x q. CalledAtName g.F.FnMut p x tt q) l.initial.visit (enumerate_from 0 (take l.number (step_names (slice_index_or l.self l.place [])))) l.visit;
}
