use Rattle.hir_borrowing_params.proofs.Pushing.{pushed_everywhere}
use Rattle.hir_borrowing_params.proofs.visits.visit_edges.Goals as goal

pub returns-clause-ok : goal.returns-clause-ok
returns-clause-ok c =
    pushed_everywhere c.args.keys.now c.args.map.now c.reserve_each.new.map c.push_each.new.map c.args.param_name.now c.args.candidates.now c.requires c.in_ok-reserve_each.ensures.same c.push_each.ensures.here c.push_each.ensures.others
