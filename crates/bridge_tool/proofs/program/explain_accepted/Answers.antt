use Rattle.std.proofs.Common.{[], refl, subst, sym}
use Rattle.bridge_explain.specs.Lines.{explanation_line}
use Rattle.bridge_explain.specs.Explained.{AnswersQuestion}
use Rattle.bridge_report.specs.InContext.{callables}
use Rattle.bridge_outside.proofs.PrintingLaws.{taken_with-nothing}
use Rattle.bridge_tool.specs.declared.status.Status.TheVariants as status
use Rattle.bridge_tool.specs.Running.{AnswersExplain}
use Rattle.bridge_tool.proofs.DeclaredLemmas.{explains_nothing, has_explanation}
use Rattle.bridge_tool.proofs.RunLemmas.{printed_text}
use Rattle.bridge_tool.proofs.program.explain_accepted.Goals as goal

pub returns-in-Ok-Some : goal.returns-in-Ok-Some
returns-in-Ok-Some g c = λ bytes input spells accepted.
    rw c.ended.ensures
    (printed_text (AnswersExplain c.args.question.now bytes) status.Accepted (explanation_line c.in-Ok-Some.explanation) c.print_explanation-printed.result (λ whole. whole)
    c.print_explanation-printed.ensures (
      input,
      spells,
      accepted.unbroken,
      has_explanation input c.args.report.now accepted c.args.question.now c.in-Ok-Some.explanation
          (subst (AnswersQuestion (callables c.args.report.now.tcx.definitions) c.args.question.now) c.in-Ok-Some.field-0-is c.in-Ok-Some.ensures),
    ))

pub returns-in-Ok-None : goal.returns-in-Ok-None
returns-in-Ok-None g c = λ bytes input spells accepted. (
  [],
  (
    input,
    spells,
    accepted.unbroken,
    explains_nothing input c.args.report.now accepted c.args.question.now
        (subst (AnswersQuestion (callables c.args.report.now.tcx.definitions) c.args.question.now) c.in-Ok-None.field-0-is c.in-Ok-None.ensures),
    refl,
  ),
  record { taken = sym (taken_with-nothing (g.K.Sink.state c.args.sink.now).taken); no_fault = refl },
)
