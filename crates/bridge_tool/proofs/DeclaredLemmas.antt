-- What is said of an input, from what its declarations are answered with.
use Rattle.std.proofs.Common.{List, ℕ, refl, sym, subst}
use Rattle.bridge_explain.specs.Inquiry.{Inquiry as Question}
use Rattle.bridge_explain.specs.Explained.{AsksNothing, IsExplained}
use Rattle.bridge_explain.specs.Lines.{explanation_line}
use Rattle.hir_explain.specs.declared.explanations.Explanation.{Explanation}
use Rattle.bridge_lowering.specs.Answers.{AreAcceptedWith}
use Rattle.bridge_read.specs.declared.input.Input.{Input}
use Rattle.bridge_report.specs.Borrowings.{AreReported}
use Rattle.bridge_report.specs.Callables.{Callable}
use Rattle.bridge_report.specs.InContext.{callables}
use Rattle.bridge_report.specs.Page.{IsPage}
use Rattle.bridge_report.specs.declared.report.BridgeReport.{BridgeReport}
use Rattle.bridge_tool.specs.Checking.{ExplainsNothing, HasExplanation, HasPage}
use Rattle.hir_backends.specs.Validator.{basic_meaning}

abbrev Accepts : Input → BridgeReport → Type 0
Accepts input report = AreAcceptedWith input.env (basic_meaning input.validator) input.config report

-- the page of its callables is that of the context's
pub has_page : (input : Input) (report : BridgeReport) → Accepts input report → (text : List ℕ) → IsPage (callables report.tcx.definitions) text
    → HasPage input text
has_page input report accepted text page = record {
  catalog = accepted.borrowed.catalog;
  is = accepted.borrowed.is;
  holds = subst (λ (cs : List Callable). IsPage cs text) accepted.borrowed.holds.same page;
}

-- the callables of the context are reported
pub reported_in : (input : Input) (report : BridgeReport) → Accepts input report → AreReported (callables report.tcx.definitions) report.callables
reported_in input report accepted =
    subst (λ (cs : List Callable). AreReported cs report.callables) (sym accepted.borrowed.holds.same) accepted.borrowed.holds.reported

-- what explains in the context explains in the declarations
pub has_explanation : (input : Input) (report : BridgeReport) → Accepts input report → (question : Question) (x : Explanation)
    → IsExplained (callables report.tcx.definitions) question x → HasExplanation input question (explanation_line x)
has_explanation input report accepted question x explained = record {
  catalog = accepted.borrowed.catalog;
  is = accepted.borrowed.is;
  holds = (x, subst (λ (cs : List Callable). IsExplained cs question x) accepted.borrowed.holds.same explained, refl);
}

pub explains_nothing : (input : Input) (report : BridgeReport) → Accepts input report → (question : Question)
    → AsksNothing (callables report.tcx.definitions) question → ExplainsNothing input question
explains_nothing input report accepted question nothing = record {
  catalog = accepted.borrowed.catalog;
  is = accepted.borrowed.is;
  holds = subst (λ (cs : List Callable). AsksNothing cs question) accepted.borrowed.holds.same nothing;
}
