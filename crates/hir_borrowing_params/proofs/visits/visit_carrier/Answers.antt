use Rattle.std.proofs.Common.{◌≡◌, option_map, subst}
use Rattle.hir_borrowing_params.specs.Edges.{held_under, holding}
use Rattle.hir_borrowing_params.specs.declared.candidates.EdgeCandidate.{EdgeCandidate}
use Rattle.hir_borrowing_params.proofs.Kinding.{carrier_told_by, whole_kinds}
use Rattle.hir_borrowing_params.proofs.visits.visit_carrier.Goals as goal

pub returns-clause-told : goal.returns-clause-told
returns-clause-told c =
    carrier_told_by c.args.map.now c.args.is_slice (record { own = c.args.own; element = c.args.element; given = c.args.given; kind = c.whole_edge.result }) c.in_ok-sets.sets c.is_empty.result c.whole_edge.ensures c.is_empty.ensures c.in_ok-sets.ensures.rows

pub returns-clause-ok : goal.returns-clause-ok
returns-clause-ok c = λ t.
    let candidate : EdgeCandidate = record { own = c.args.own; element = c.args.element; given = c.args.given; kind = c.whole_edge.result } in
    subst (λ edges. held_under c.visit_edges.new.map t ≡ option_map (holding c.args.param_name.now edges) (held_under c.args.map.now t)) (whole_kinds c.args.is_slice candidate c.whole_edge.ensures) (c.in_ok-sets.ensures.ok t)
