use Rattle.std.proofs.Common.{◌≡◌, ℕ, Bool, option_map, subst}
use Rattle.std.specs.Prelude.{IfOk, OnOk}
use Rattle.hir_ids.specs.declared.ids.TypeId.{TypeId}
use Rattle.hir_types.specs.Types.{is_option}
use Rattle.hir_skeleton.specs.Skeletons.{Skeleton}
use Rattle.hir_borrowing_params.specs.Answering.{TellsParam}
use Rattle.hir_borrowing_params.specs.Edges.{holding, input_edges}
use Rattle.hir_skeleton.specs.Inputs.{is_slice_type}
use Rattle.hir_borrowing_params.specs.Visitors.{kept_under, visited_definitions}
use Rattle.hir_parts.specs.Parts.{input_skeleton, part_is_slice}
use Rattle.hir_borrowing_params.proofs.visitor.BorrowingParamVisitor.visit_param.Goals as goal

pub returns-clause-told : goal.returns-clause-told
returns-clause-told g c =
    let Told : Bool → Bool → Skeleton TypeId → Type 0 = λ b o s. IfOk c.visit_part.result (TellsParam (visited_definitions c.args.self.now) (kept_under c.args.self.now) b s (input_edges (visited_definitions c.args.self.now) b o s)) in
    subst (λ s. Told (is_slice_type c.args.ty.now) (is_option c.args.ty.now) s) c.input_part-part.ensures.skeleton
    (subst (λ b. Told b (is_option c.args.ty.now) (input_skeleton c.input_part-part.result)) c.input_part-part.ensures.slice
    (subst (λ o. Told (part_is_slice c.input_part-part.result) o (input_skeleton c.input_part-part.result)) c.is_option.ensures c.visit_part.ensures.told))

pub returns-clause-ok : goal.returns-clause-ok
returns-clause-ok g c =
    let Added : Bool → Bool → Skeleton TypeId → Type 0 = λ b o s. OnOk c.visit_part.result ((t : ℕ) → kept_under c.visit_part.new.self t ≡ option_map (holding c.args.param_name.now (input_edges (visited_definitions c.args.self.now) b o s)) (kept_under c.args.self.now t)) in
    subst (λ s. Added (is_slice_type c.args.ty.now) (is_option c.args.ty.now) s) c.input_part-part.ensures.skeleton
    (subst (λ b. Added b (is_option c.args.ty.now) (input_skeleton c.input_part-part.result)) c.input_part-part.ensures.slice
    (subst (λ o. Added (part_is_slice c.input_part-part.result) o (input_skeleton c.input_part-part.result)) c.is_option.ensures c.visit_part.ensures.ok))
