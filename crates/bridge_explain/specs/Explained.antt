-- Which leaf of which callable is asked about, by the names that a page prints, and what explains it.
use Rattle.std.specs.Prelude.{◌≡◌, ◌↔◌, ℕ, List, Option, Some, None}
use Rattle.std.specs.List.{Contains, find}
use Rattle.std.specs.Str.{bytes_eq}
use Rattle.hir_explain.specs.Explanations.{IsListed, Proves, SaysListed}
use Rattle.hir_explain.specs.declared.explanations.Explanation.{Explanation}
use Rattle.hir_life.specs.declared.maybe_static.MaybeStatic.TheVariants.{NonStatic}
use Rattle.hir_reports.specs.Places.{context_text}
use Rattle.hir_skeleton.specs.NamedLeaves.{NamedLeaf}
use Rattle.bridge_report.specs.Callables.{Callable}
use Rattle.bridge_report.specs.Page.{leaf_text}
use Rattle.bridge_explain.specs.Inquiry.{Inquiry}

-- the first callable that is printed so
abbrev pub callable_called : List ℕ → List Callable → Option Callable
callable_called word callables = find (λ c. bytes_eq (context_text c.place) word) callables

-- the first leaf that is printed so
abbrev pub leaf_called : List ℕ → List NamedLeaf → Option NamedLeaf
leaf_called word leaves = find (λ leaf. bytes_eq (leaf_text leaf) word) leaves

-- the names are those of this callable and this leaf, and the callable's return names the lifetime
pub record AsksAbout (callables : List Callable) (asked : Inquiry) (c : Callable) (leaf : NamedLeaf) : Type 0 where
  pub is_callable : callable_called asked.callable callables ≡ Some c
  pub is_leaf : leaf_called asked.leaf c.leaves ≡ Some leaf
  pub returned : Contains c.named (NonStatic asked.lifetime)

-- they are those of none
abbrev pub AsksNothing : List Callable → Inquiry → Type 0
AsksNothing callables asked = (c : Callable) (leaf : NamedLeaf) → ¬ AsksAbout callables asked c leaf

-- the explanation is a right one of what is asked about: a chain where the leaf is listed
pub record IsExplained (callables : List Callable) (asked : Inquiry) (x : Explanation) : Type 0 where
  pub callable : Callable
  pub leaf : NamedLeaf
  pub about : AsksAbout callables asked callable leaf
  pub proves : Proves callable.environment leaf.carried asked.lifetime x
  pub kind : SaysListed x ↔ IsListed callable.environment leaf.carried asked.lifetime

-- the answer
abbrev pub AnswersQuestion : List Callable → Inquiry → Option Explanation → Type 0
AnswersQuestion callables asked None = AsksNothing callables asked
AnswersQuestion callables asked (Some x) = IsExplained callables asked x
