use Rattle.std.proofs.Common.{Err, ap, subst, sym, ◌∙◌}
use Rattle.bridge_lowering.specs.Answers.{AnswersReport}
use Rattle.hir_backends.specs.Validator.{basic_meaning}
use Rattle.bridge_tool.specs.Checking.{IsRefusedWith}
use Rattle.bridge_tool.proofs.DeclaredLemmas.{reported_in}
use Rattle.bridge_tool.proofs.program.tell_explanation.Goals as goal

pub explain_accepted-requires : goal.explain_accepted-requires
explain_accepted-requires g c = reported_in c.args.input.now c.in-Ok.report c.in-Ok.ensures

pub returns-in-Ok : goal.returns-in-Ok
returns-in-Ok g c = λ bytes spells. c.explain_accepted.ensures bytes c.args.input.now spells c.in-Ok.ensures

pub returns-in-Err-Refused : goal.returns-in-Err-Refused
returns-in-Err-Refused g c = λ bytes spells.
    let input = c.args.input.now in
    c.refuse.ensures.explain c.args.question.now bytes input spells
    (subst (IsRefusedWith input) (sym (c.as_slice.ensures.value ∙ ap (λ r. r.items) c.in-Err-Refused.reports-is))
    (subst (λ fault. AnswersReport input.env (basic_meaning input.validator) input.config (Err fault)) c.in-Err-Refused.field-0-is c.in-Err-Refused.ensures))
