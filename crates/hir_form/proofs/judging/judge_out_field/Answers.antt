use Rattle.std.proofs.Common.{sym, ◌∙◌}
use Rattle.bridge_grid.specs.declared.part.Part.TheVariants.{Whole}
use Rattle.hir_form.proofs.OutLemmas.{OutField}
use Rattle.hir_form.proofs.ParamLemmas.{accepts_out}
use Rattle.hir_form.proofs.judging.judge_out_field.Goals as goal

pub accept_type-requires : goal.accept_type-requires
accept_type-requires c = λ h. accepts_out _ _ _ OutField c.args.support.now c.args.catalog.now Whole c.args.ty.now (sym c.in_ok-faults.ensures.exact ∙ h)
