use Rattle.std.proofs.Common.{[], drop, slice_index_or, Result}
use Rattle.std.specs.List.{enumerate_from}
use Rattle.hir_borrowing_fields.specs.Calls.{CalledAtName, TriesEach}
use Rattle.hir_borrowing_fields.specs.inside.Places.{step_names}
use Rattle.hir_borrowing_fields.proofs.places.Places.try_backtrace.Given as goal

abbrev pub invariant-loop-number : goal.invariant-loop-number
invariant-loop-number g l = record {
  callable : goal.F-IsAlwaysCallable g l.visit;
  called : (r : Result (Unit {0}) g.row.E.Denot) (last : _) → TriesEach (CalledAtName g.F.FnMut) l.visit (drop l.number (enumerate_from 0 (step_names (slice_index_or l.self l.place [])))) r last
      → TriesEach (CalledAtName g.F.FnMut) l.initial.visit (enumerate_from 0 (step_names (slice_index_or l.self l.place []))) r last;
}
