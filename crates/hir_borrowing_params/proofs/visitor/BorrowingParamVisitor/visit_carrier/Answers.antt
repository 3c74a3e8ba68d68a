use Rattle.std.proofs.Common.{◌≡◌, option_map, subst}
use Rattle.hir_borrowing_params.specs.Edges.{held_under, holding}
use Rattle.hir_parts.specs.Parts.{carried_by}
use Rattle.hir_borrowing_params.proofs.Kinding.{carrier_edges}
use Rattle.hir_borrowing_params.proofs.visitor.BorrowingParamVisitor.visit_carrier.Goals as goal

pub returns-clause-ok : goal.returns-clause-ok
returns-clause-ok c = λ optional t.
    subst (λ edges. held_under c.visit_carrier.new.map t ≡ option_map (holding c.args.param_name.now edges) (held_under c.args.self.now.map t))
    (carrier_edges c.args.self.now.tcx.now.definitions c.args.is_slice optional (carried_by c.args.own c.args.element c.args.given.now)) (c.in_ok-borrowed.ensures.ok t)
