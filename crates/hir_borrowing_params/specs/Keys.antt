-- Which returned lifetimes are kept, and what is kept of them at first.
use Rattle.std.specs.Prelude.{◌≡◌, ◌↔◌, ℕ, [], IsTrue}
use Rattle.std.specs.BTreeSet.{BTreeSet}
use Rattle.hir_life.specs.Environment.{Environment, longer_of}
use Rattle.hir_life.specs.Outlives.{Outlives}
use Rattle.hir_borrowing_params.specs.Edges.{HeldFor, is_in}

-- the set has the lifetimes that outlive t and no others: 'a and 'b for 'a
abbrev pub HasOutliving : Environment → ℕ → BTreeSet ℕ → Type 0
HasOutliving env t set = (l : ℕ) → (IsTrue (is_in set l) ↔ Outlives (longer_of env) l t)

-- nothing is held for t yet
pub record IsStart (env : Environment) (t : ℕ) (h : HeldFor) : Type 0 where
  pub edges : h.edges ≡ []
  pub longer : HasOutliving env t h.longer
