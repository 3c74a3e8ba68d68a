-- What is said of the declarations of an input, for its backend and by its configuration.
use Rattle.std.specs.Prelude.{◌≡◌, ℕ, List}
use Rattle.bridge_callables.specs.Declared.{declared_callables}
use Rattle.bridge_explain.specs.Inquiry.{Inquiry as Question}
use Rattle.bridge_explain.specs.Explained.{AsksNothing, IsExplained}
use Rattle.bridge_explain.specs.Lines.{explanation_line}
use Rattle.hir_explain.specs.declared.explanations.Explanation.{Explanation}
use Rattle.bridge_lowering.specs.Answers.{AreRefusedWith, IsPageOf}
use Rattle.bridge_lowering.specs.Broken.{BreakNothing, HoldsOf}
use Rattle.bridge_read.specs.declared.input.Input.{Input}
use Rattle.hir_backends.specs.Validator.{basic_meaning}
use Rattle.hir_reports.specs.declared.report.LoweringReport.{LoweringReport}

-- no declaration breaks a rule
abbrev pub BreaksNothing : Input → Type 0
BreaksNothing input = BreakNothing input.env (basic_meaning input.validator) input.config

-- what is told where one does: each report tells a broken rule and its declaration, and each broken place has one
abbrev pub IsRefusedWith : Input → List LoweringReport → Type 0
IsRefusedWith input told = AreRefusedWith input.env (basic_meaning input.validator) input.config told

-- the page of the declarations
abbrev pub HasPage : Input → List ℕ → Type 0
HasPage input text = IsPageOf input.env (basic_meaning input.validator) input.config text

-- the line of a right explanation of what is asked about, among the callables of the declarations
abbrev pub HasExplanation : Input → Question → List ℕ → Type 0
HasExplanation input question text =
    HoldsOf input.env (basic_meaning input.validator) input.config
    (λ it. (x : Explanation) × IsExplained (declared_callables it) question x × (text ≡ explanation_line x))

-- nothing is asked about: there is no such callable, leaf or returned lifetime
abbrev pub ExplainsNothing : Input → Question → Type 0
ExplainsNothing input question =
    HoldsOf input.env (basic_meaning input.validator) input.config (λ it. AsksNothing (declared_callables it) question)
