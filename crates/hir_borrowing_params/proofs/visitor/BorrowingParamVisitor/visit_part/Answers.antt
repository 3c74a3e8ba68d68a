use Rattle.std.proofs.Common.{◌≡◌, ◌∙◌, ℕ, false, option_copied, option_map, ap, refl, subst, sym}
use Rattle.std.specs.Prelude.{IfOk, OnOk}
use Rattle.hir_borrowing_params.specs.Answering.{IsUnheld, TellsParam}
use Rattle.hir_borrowing_params.specs.Edges.{holding, input_edges}
use Rattle.hir_borrowing_params.specs.Visitors.{kept_under, visited_definitions}
use Rattle.hir_ids.specs.declared.ids.TypeId.TheVariants as type
use Rattle.hir_parts.specs.Parts.{input_skeleton, part_is_slice}
use Rattle.hir_borrowing_params.proofs.Told.{unknown_free, unknown_same}
use Rattle.hir_borrowing_params.proofs.visitor.BorrowingParamVisitor.visit_part.Goals as goal

pub returns-in-Carrier-clause-told : goal.returns-in-Carrier-clause-told
returns-in-Carrier-clause-told c =
    subst (λ p. IfOk c.visit_carrier.result (TellsParam (visited_definitions c.args.self.now) (kept_under c.args.self.now) (part_is_slice p) (input_skeleton p) (input_edges (visited_definitions c.args.self.now) (part_is_slice p) c.args.optional (input_skeleton p))))
    (sym c.in-Carrier.is) (c.visit_carrier.ensures.told c.args.optional)

pub returns-in-Carrier-clause-ok : goal.returns-in-Carrier-clause-ok
returns-in-Carrier-clause-ok c =
    subst (λ p. OnOk c.visit_carrier.result ((t : ℕ) → kept_under c.visit_carrier.new.self t ≡ option_map (holding c.args.param_name.now (input_edges (visited_definitions c.args.self.now) (part_is_slice p) c.args.optional (input_skeleton p))) (kept_under c.args.self.now t)))
    (sym c.in-Carrier.is) (c.visit_carrier.ensures.ok c.args.optional)

pub returns-in-Some-clause-told : goal.returns-in-Some-clause-told
returns-in-Some-clause-told c =
    subst (λ p. IfOk c.visit_struct.result (TellsParam (visited_definitions c.args.self.now) (kept_under c.args.self.now) (part_is_slice p) (input_skeleton p) (input_edges (visited_definitions c.args.self.now) (part_is_slice p) c.args.optional (input_skeleton p))))
    (sym c.in-Struct.is) (c.visit_struct.ensures.told (type.Struct c.in-Struct.id) (sym c.environment_of.ensures ∙ ap option_copied c.in-Some.is))

pub returns-in-Some-clause-ok : goal.returns-in-Some-clause-ok
returns-in-Some-clause-ok c =
    subst (λ p. OnOk c.visit_struct.result ((t : ℕ) → kept_under c.visit_struct.new.self t ≡ option_map (holding c.args.param_name.now (input_edges (visited_definitions c.args.self.now) (part_is_slice p) c.args.optional (input_skeleton p))) (kept_under c.args.self.now t)))
    (sym c.in-Struct.is) (c.visit_struct.ensures.ok (type.Struct c.in-Struct.id) (sym c.environment_of.ensures ∙ ap option_copied c.in-Some.is))

pub returns-in-None-clause-told : goal.returns-in-None-clause-told
returns-in-None-clause-told c =
    subst (λ p. IsUnheld (kept_under c.args.self.now) (input_edges (visited_definitions c.args.self.now) (part_is_slice p) c.args.optional (input_skeleton p)) × (part_is_slice p ≡ false)) (sym c.in-Struct.is)
    (unknown_free (visited_definitions c.args.self.now) false c.args.optional (type.Struct c.in-Struct.id) (sym c.environment_of.ensures ∙ ap option_copied c.in-None.is) (kept_under c.args.self.now) c.in-Struct.args.now, refl)

pub returns-in-None-clause-ok : goal.returns-in-None-clause-ok
returns-in-None-clause-ok c = λ t.
    subst (λ p. kept_under c.args.self.now t ≡ option_map (holding c.args.param_name.now (input_edges (visited_definitions c.args.self.now) (part_is_slice p) c.args.optional (input_skeleton p))) (kept_under c.args.self.now t)) (sym c.in-Struct.is)
    (unknown_same (visited_definitions c.args.self.now) false c.args.optional (type.Struct c.in-Struct.id) (sym c.environment_of.ensures ∙ ap option_copied c.in-None.is) c.args.param_name.now c.in-Struct.args.now (kept_under c.args.self.now t))
