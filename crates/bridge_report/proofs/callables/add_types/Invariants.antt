use Rattle.std.proofs.Common.{◌≡◌, ◌++◌}
use Rattle.std.specs.List.{flat_map}
use Rattle.hir_context.specs.Iterating.{all_types, types_left}
use Rattle.bridge_report.specs.inside.Ids.{type_ids}
use Rattle.bridge_report.proofs.callables.add_types.Given as goal

-- the ids with those of the types that are left are all
abbrev pub invariant-loop-id : goal.invariant-loop-id
invariant-loop-id l =
    (goal.iterator-loop-id).can_next l.id-iterator × (goal.iterator-loop-id).is_finite l.id-iterator
    × (l.ids ++ flat_map type_ids (types_left l.id-iterator) ≡ l.fn.ids ++ flat_map type_ids (all_types l.tcx.definitions))
