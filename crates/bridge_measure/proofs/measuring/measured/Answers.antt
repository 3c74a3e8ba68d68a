use Rattle.std.proofs.Common.{List, Err, subst, sym, arith}
use Rattle.bridge_decl.specs.declared.modules.Module.{Module}
use Rattle.bridge_lowering.specs.Answers.{AnswersReport, AreRefusedWith}
use Rattle.bridge_lowering.specs.Broken.{BreakNothing}
use Rattle.hir_backends.specs.Support.{flag_on}
use Rattle.hir_backends.specs.Validator.{basic_meaning}
use Rattle.bridge_measure.proofs.MeasuredLemmas.{refused_break}
use Rattle.bridge_measure.proofs.measuring.measured.Goals as goal

pub unreachable-requires : goal.unreachable-requires
unfolding flag_on
unreachable-requires c =
    let env = c.in_ok-env.env in
    let config = c.default.result in
    let backend = basic_meaning (record c.in_ok-validator.validator { support = c.with-validator.result }) in
    let reports = c.in-Err-Refused.field-0-0.items in
    let refused : AreRefusedWith env backend config reports
    = subst (λ fault. AnswersReport env backend config (Err fault)) c.in-Err-Refused.field-0-is c.in-Err-Refused.ensures in
    refused_break env backend config reports refused
    (subst (λ (modules : List Module). BreakNothing modules backend config) (sym c.in_ok-env.ensures)
    (c.generated_declarations_break_no_rule.ensures c.args.count backend config (omega (arith, c.requires.most)) c.with-validator.ensures.on))
