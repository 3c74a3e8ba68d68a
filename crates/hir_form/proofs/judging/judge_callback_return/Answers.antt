use Rattle.std.proofs.Common.{sym, ◌∙◌}
use Rattle.hir_form.proofs.ParamLemmas.{callback_return_given}
use Rattle.hir_form.proofs.judging.judge_callback_return.Goals as goal

pub accept_callback_return-requires : goal.accept_callback_return-requires
accept_callback_return-requires c = λ h. callback_return_given c.args.support.now c.args.catalog.now c.args.ty.now (sym c.in_ok-faults.ensures.exact ∙ h)
