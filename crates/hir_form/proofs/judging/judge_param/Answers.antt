use Rattle.std.proofs.Common.{sym, ◌∙◌}
use Rattle.hir_form.proofs.ParamLemmas.{param_given}
use Rattle.hir_form.proofs.judging.judge_param.Goals as goal

pub accept_param-requires : goal.accept_param-requires
accept_param-requires c = λ h. param_given c.args.support.now c.args.config c.args.catalog.now c.args.ty.now (sym c.in_ok-faults.ensures.exact ∙ h)
