use Rattle.std.proofs.Common.{ap, length, subst, sym, ◌∙◌}
use Rattle.std.specs.List.{All}
use Rattle.hir_skeleton.specs.Inputs.{method_inputs}
use Rattle.hir_borrowing_fields.specs.inside.InputFits.{SkeletonFits}
use Rattle.hir_borrowing_fields.proofs.FittingLemmas.{inputs_fit}
use Rattle.hir_borrowing_fields.proofs.WalkLemmas.{length_identity}
use Rattle.hir_borrowing_fields.proofs.visitor.BorrowingFieldVisitor.new.Goals as goal

pub find_leaves-requires-clause-fit : goal.find_leaves-requires-clause-fit
find_leaves-requires-clause-fit c =
    subst (λ n. All (SkeletonFits c.args.tcx.now.definitions n) (method_inputs c.args.method.now))
    (sym (ap length c.in_ok-args.ensures ∙ length_identity c.args.method.now.lifetime_env.count)) (inputs_fit c.args.tcx.now.definitions c.args.method.now c.requires.fits)
