use Rattle.std.proofs.Common.{◌≡◌, ◌++◌}
use Rattle.std.specs.List.{enumerate_from, flat_map}
use Rattle.hir_context.specs.Iterating.{traits_left}
use Rattle.bridge_validation.specs.Told.{lowered_trait_reports}
use Rattle.bridge_validation.proofs.callables.Tested.tell_traits.Given as goal

-- the reports with those of the traits that are left are all
abbrev pub invariant-loop-id : goal.invariant-loop-id
invariant-loop-id l =
    (goal.iterator-loop-id).can_next l.id-iterator × (goal.iterator-loop-id).is_finite l.id-iterator
    × (l.errors.reports ++ flat_map (lowered_trait_reports l.self.callbacks_must_fail l.self.counts.tcx.now.definitions) (traits_left l.id-iterator)
    ≡ l.fn.errors.reports ++ flat_map (lowered_trait_reports l.self.callbacks_must_fail l.self.counts.tcx.now.definitions) (enumerate_from 0 l.self.counts.tcx.now.definitions.traits.defs))
