-- The callable of a report that a loop reads.
use Rattle.std.proofs.Common.{◌≡◌, ◌≤◌, ◌<◌, ◌+◌, ℕ, Bool, true, false, List, ◌∷◌, Some, None, length, drop, get_or, slice_get, sym, ap, ◌∙◌, arith}
use Rattle.std.specs.Prelude.{IfSome, IsSome, is_some}
use Rattle.std.specs.Str.{bytes_eq}
use Rattle.hir_context.specs.declared.parts.Definitions.{Definitions}
use Rattle.hir_reports.specs.Places.{context_text}
use Rattle.bridge_page.proofs.PageLemmas.{Known, known}
use Rattle.bridge_report.specs.Borrowings.{AreReported, IsReported}
use Rattle.bridge_report.specs.Callables.{Callable}
use Rattle.bridge_report.specs.InContext.{callable_at, callables}
use Rattle.bridge_report.specs.declared.report.CallableReport.{CallableReport}
use Rattle.bridge_explain.specs.Explained.{callable_called}
use Rattle.bridge_explain.specs.inside.Found.{FindsCallable}
use Rattle.bridge_explain.proofs.Finding.{beside, beside_length, found_first, found_later, found_none, here, if_some_at}

module _ (defs : Definitions) (reports : List CallableReport) (told : AreReported (callables defs) reports) where
  module _ (i : ℕ) (report : CallableReport) (within : i < length reports) (is : report ≡ get_or reports i report) where
    of_report : (c : Callable) × Known defs c report × (slice_get (callables defs) i ≡ Some c)
    of_report = beside (Known defs) (callables defs) reports (known defs reports told) i report within is

    pub is_there : IsSome (callable_at defs report.callable)
    is_there = ap is_some of_report.1.0

    module _ (word : List ℕ) (called : Bool) (says : IfSome (callable_at defs report.callable) (λ c. called ≡ bytes_eq (context_text c.place) word))
        (so_far : callable_called word (callables defs) ≡ callable_called word (drop i (callables defs))) where
      test_is : called ≡ bytes_eq (context_text of_report.0.place) word
      test_is = if_some_at (λ (c : Callable). called ≡ bytes_eq (context_text c.place) word) (callable_at defs report.callable) of_report.0 of_report.1.0 says

      split : callable_called word (callables defs) ≡ callable_called word (of_report.0 ∷ drop (i + 1) (callables defs))
      split = so_far ∙ ap (callable_called word) (here (callables defs) i of_report.0 of_report.2)

      pub it_is_called : called ≡ true → FindsCallable defs word report
      it_is_called same = record {
        callable = of_report.0;
        found = found_first (λ (c : Callable). bytes_eq (context_text c.place) word) of_report.0 (callables defs) (drop (i + 1) (callables defs)) split (sym test_is ∙ same);
        of = record { there = of_report.1.0; reported = of_report.1.1 };
      }

      pub another_is_called : called ≡ false → callable_called word (callables defs) ≡ callable_called word (drop (i + 1) (callables defs))
      another_is_called other =
          found_later (λ (c : Callable). bytes_eq (context_text c.place) word) of_report.0 (callables defs) (drop (i + 1) (callables defs)) split (sym test_is ∙ other)

  pub none_is_called : (word : List ℕ) (i : ℕ) → callable_called word (callables defs) ≡ callable_called word (drop i (callables defs)) → length reports ≤ i
      → callable_called word (callables defs) ≡ None
  none_is_called word i so_far past =
      let many = beside_length IsReported (callables defs) reports told in
      found_none (λ (c : Callable). bytes_eq (context_text c.place) word) (callables defs) i so_far (omega (arith, past, many))
