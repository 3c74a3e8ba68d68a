-- What was found on the way to an explanation.
use Rattle.std.specs.Prelude.{◌≡◌, ◌↔◌, ℕ, List, Option, Some, None, true, false}
use Rattle.std.specs.Str.{bytes_eq}
use Rattle.std.specs.List.{Contains}
use Rattle.hir_context.specs.declared.parts.Definitions.{Definitions}
use Rattle.hir_explain.specs.Explanations.{IsListed, Proves, SaysListed}
use Rattle.hir_explain.specs.declared.explanations.Explanation.{Explanation}
use Rattle.hir_life.specs.declared.maybe_static.MaybeStatic.{MaybeStatic}
use Rattle.hir_life.specs.declared.maybe_static.MaybeStatic.TheVariants.{NonStatic}
use Rattle.hir_skeleton.specs.NamedLeaves.{NamedLeaf}
use Rattle.bridge_report.specs.Borrowings.{IsReported}
use Rattle.bridge_report.specs.Callables.{Callable}
use Rattle.bridge_report.specs.InContext.{callable_at, callables}
use Rattle.bridge_report.specs.declared.report.CallableReport.{CallableReport}
use Rattle.bridge_report.specs.Page.{leaf_text}
use Rattle.bridge_explain.specs.Explained.{callable_called, leaf_called}

-- the report is that of the callable
pub record IsReportOf (defs : Definitions) (c : Callable) (report : CallableReport) : Type 0 where
  pub there : callable_at defs report.callable ≡ Some c
  pub reported : IsReported c report

abbrev pub IsReportOfSome : Definitions → CallableReport → Type 0
IsReportOfSome defs report = (c : Callable) × IsReportOf defs c report

-- the report of the first callable that is printed so
pub record FindsCallable (defs : Definitions) (word : List ℕ) (report : CallableReport) : Type 0 where
  pub callable : Callable
  pub found : callable_called word (callables defs) ≡ Some callable
  pub of : IsReportOf defs callable report

-- what a leaf carries, where it is printed so
abbrev pub IsCarriedIfCalled : List ℕ → NamedLeaf → Option (List (MaybeStatic ℕ)) → Type 0
IsCarriedIfCalled word leaf None = bytes_eq (leaf_text leaf) word ≡ false
IsCarriedIfCalled word leaf (Some carried) = (bytes_eq (leaf_text leaf) word ≡ true) × (carried ≡ leaf.carried)

-- what the first leaf that is printed so carries
pub record FindsLeaf (leaves : List NamedLeaf) (word : List ℕ) (carried : List (MaybeStatic ℕ)) : Type 0 where
  pub leaf : NamedLeaf
  pub found : leaf_called word leaves ≡ Some leaf
  pub carries : carried ≡ leaf.carried

-- the same of a callable: which leaf and which returned lifetime is asked about
pub record AsksInside (c : Callable) (word : List ℕ) (t : ℕ) (leaf : NamedLeaf) : Type 0 where
  pub is_leaf : leaf_called word c.leaves ≡ Some leaf
  pub returned : Contains c.named (NonStatic t)

pub record IsExplainedInside (c : Callable) (word : List ℕ) (t : ℕ) (x : Explanation) : Type 0 where
  pub leaf : NamedLeaf
  pub about : AsksInside c word t leaf
  pub proves : Proves c.environment leaf.carried t x
  pub kind : SaysListed x ↔ IsListed c.environment leaf.carried t

abbrev pub AnswersInside : Callable → List ℕ → ℕ → Option Explanation → Type 0
AnswersInside c word t None = (leaf : NamedLeaf) → ¬ AsksInside c word t leaf
AnswersInside c word t (Some x) = IsExplainedInside c word t x
