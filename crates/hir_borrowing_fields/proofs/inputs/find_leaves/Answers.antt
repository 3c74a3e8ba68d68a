use Rattle.std.proofs.Common.{◌++◌, [], map, ap, ◌∙◌}
use Rattle.hir_borrowing_fields.specs.inside.Walks.{behind, leaves_from, named_inputs, walked_type}
use Rattle.hir_borrowing_fields.proofs.NamingLemmas.{method_named}
use Rattle.hir_borrowing_fields.proofs.WalkLemmas.{behind_none}
use Rattle.hir_borrowing_fields.proofs.inputs.find_leaves.Goals as goal

pub returns : goal.returns
returns c =
    let inputs = named_inputs c.args.self_name.now c.args.method.now in
    let found = leaves_from 0 (walked_type c.args.tcx.now.definitions 256 c.args.args.now) inputs in
    c.in_ok-add_inputs.ensures.finds.leaves
    ∙ ap (λ first. first.leaves ++ map (behind []) found) c.new.ensures
    ∙ behind_none found
    ∙ ap (λ args. leaves_from 0 (walked_type c.args.tcx.now.definitions 256 args) inputs) c.requires.own
    ∙ method_named c.args.tcx.now.definitions c.args.self_name.now c.args.method.now
