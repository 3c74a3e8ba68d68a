use Rattle.std.proofs.Common.{◌++◌, ap, ◌∙◌}
use Rattle.std.specs.List.{flat_map}
use Rattle.hir_context.specs.Iterating.{all_types}
use Rattle.bridge_report.specs.inside.Ids.{type_ids}
use Rattle.bridge_report.proofs.Gathered.{gathered_give}
use Rattle.bridge_report.proofs.callables.callable_ids.Goals as goal

pub returns : goal.returns
returns c =
    let defs = c.args.tcx.now.definitions in
    gathered_give defs c.add_types.new.ids c.add_functions.new.ids
    (c.in_ok-add_types.ensures ∙ ap (λ ids. ids ++ flat_map type_ids (all_types defs)) c.new-ids.ensures) c.in_ok-add_functions.ensures
