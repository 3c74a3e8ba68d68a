use Rattle.std.proofs.Common.{◌≡◌, ◌++◌}
use Rattle.std.specs.List.{enumerate_from, flat_map}
use Rattle.hir_context.specs.Iterating.{functions_left}
use Rattle.bridge_report.specs.inside.Ids.{function_ids}
use Rattle.bridge_report.proofs.callables.add_functions.Given as goal

-- the ids with those of the functions that are left are all
abbrev pub invariant-loop-id : goal.invariant-loop-id
invariant-loop-id l =
    (goal.iterator-loop-id).can_next l.id-iterator × (goal.iterator-loop-id).is_finite l.id-iterator
    × (l.ids ++ flat_map function_ids (functions_left l.id-iterator)
    ≡ l.fn.ids ++ flat_map function_ids (enumerate_from 0 l.tcx.definitions.functions.defs))
