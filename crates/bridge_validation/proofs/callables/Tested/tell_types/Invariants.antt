use Rattle.std.proofs.Common.{◌≡◌, ◌++◌}
use Rattle.std.specs.List.{flat_map}
use Rattle.hir_context.specs.Iterating.{all_types, types_left}
use Rattle.bridge_validation.specs.Told.{lowered_type_reports}
use Rattle.bridge_validation.proofs.callables.Tested.tell_types.Given as goal

-- the reports with those of the types that are left are all
abbrev pub invariant-loop-id : goal.invariant-loop-id
invariant-loop-id l =
    (goal.iterator-loop-id).can_next l.id-iterator × (goal.iterator-loop-id).is_finite l.id-iterator
    × (l.errors.reports ++ flat_map (lowered_type_reports l.self.callbacks_must_fail l.self.counts.tcx.now.definitions) (types_left l.id-iterator)
    ≡ l.fn.errors.reports ++ flat_map (lowered_type_reports l.self.callbacks_must_fail l.self.counts.tcx.now.definitions) (all_types l.self.counts.tcx.now.definitions))
