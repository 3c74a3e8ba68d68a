use Rattle.std.proofs.Common.{sym, ◌∙◌}
use Rattle.hir_form.proofs.ParamLemmas.{out_param_given}
use Rattle.hir_form.proofs.judging.judge_callback_param.Goals as goal

pub accept_type-requires : goal.accept_type-requires
accept_type-requires c = λ h. out_param_given c.args.support.now c.args.config c.args.catalog.now c.args.ty.now (sym c.in_ok-faults.ensures.exact ∙ h)
