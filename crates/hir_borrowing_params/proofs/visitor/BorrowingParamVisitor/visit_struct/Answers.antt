use Rattle.std.proofs.Common.{◌≡◌, false, option_map, subst}
use Rattle.hir_borrowing_params.specs.Edges.{held_under, holding}
use Rattle.hir_borrowing_params.proofs.Kinding.{position_edges}
use Rattle.hir_borrowing_params.proofs.Told.{tells_none, tells_some}
use Rattle.hir_borrowing_params.proofs.visitor.BorrowingParamVisitor.visit_struct.Goals as goal

pub returns-in-Some-clause-told : goal.returns-in-Some-clause-told
returns-in-Some-clause-told c = λ id there.
    tells_some c.args.self.now.tcx.now.definitions (held_under c.args.self.now.map) c.args.optional id c.args.env.now c.args.args.now there c.in_ok-told.field-0 c.in-Some.told c.in-Some.is c.in_ok-told.ensures.told

pub returns-in-Some-clause-ok : goal.returns-in-Some-clause-ok
returns-in-Some-clause-ok c = λ id there t.
    subst (λ edges. held_under c.visit_struct.new.map t ≡ option_map (holding c.args.param_name.now edges) (held_under c.args.self.now.map t))
    (position_edges c.args.self.now.tcx.now.definitions false c.args.optional id c.args.env.now c.args.args.now there) (c.in_ok-told.ensures.ok t)

pub returns-in-None-clause-told : goal.returns-in-None-clause-told
returns-in-None-clause-told c = λ id there.
    tells_none c.args.self.now.tcx.now.definitions (held_under c.args.self.now.map) c.args.optional id c.args.env.now c.args.args.now there c.in_ok-told.field-0 c.in-None.is c.in_ok-told.ensures.told

pub returns-in-None-clause-ok : goal.returns-in-None-clause-ok
returns-in-None-clause-ok c = λ id there t.
    subst (λ edges. held_under c.visit_struct.new.map t ≡ option_map (holding c.args.param_name.now edges) (held_under c.args.self.now.map t))
    (position_edges c.args.self.now.tcx.now.definitions false c.args.optional id c.args.env.now c.args.args.now there) (c.in_ok-told.ensures.ok t)
