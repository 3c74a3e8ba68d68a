-- What a visitor of lifetimes visits. The example throughout is `fn f<'a, 'b: 'a, 'c: 'b>`.
use Rattle.std.specs.Prelude.{◌≡◌, ℕ, List, ◌<◌, ◌++◌, ◌↔◌, length}
use Rattle.std.specs.List.{Contains, FoldsTo}
use Rattle.hir_life.specs.Environment.{Environment, longer_of}
use Rattle.hir_life.specs.Listing.{IsOnceEach}
use Rattle.hir_life.specs.Outlives.{Outlives}

-- the environment, the lifetimes that were visited, and what is called at each
pub record Visitor (F : Type 0) : Type 0 where
  pub environment : Environment
  pub visited : List ℕ
  pub visit_fn : F

-- l is named, outlives s and wasn't visited: from b these are b and c, and from a after that a alone
abbrev pub IsDue : {F : Type 0} → Visitor F → ℕ → ℕ → Type 0
IsDue v s l =
    (l < length v.environment.bounds) × Outlives (longer_of v.environment) l s × (Contains v.visited l → ⊥)

-- the visitor was called at each lifetime that was due, once, one after another, and notes them as visited
pub record Visits {F : Type 0} (call : F → ℕ → F → Type 0) (v : Visitor F) (s : ℕ) (after : Visitor F) : Type 0 where
  pub now : List ℕ
  pub due : (l : ℕ) → (Contains now l ↔ IsDue v s l)
  pub once : IsOnceEach now
  pub called : FoldsTo call v.visit_fn now after.visit_fn
  pub noted : after.visited ≡ v.visited ++ now
  pub same : after.environment ≡ v.environment
