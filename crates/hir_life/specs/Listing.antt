-- The lifetimes that outlive one, as a list. The example throughout is `fn f<'a, 'b: 'a, 'c: 'b>` and the lifetime a, with the
-- list a, b, c.
use Rattle.std.specs.Prelude.{◌≡◌, ℕ, List, ◌<◌, ◌↔◌, length, slice_index, slice_get, Some}
use Rattle.std.specs.List.{Contains, sum_by}
use Rattle.hir_life.specs.Outlives.{Outlives}
use Rattle.hir_life.specs.Environment.{Environment, longer_of}

-- no number stands twice in the list
abbrev pub IsOnceEach : List ℕ → Type 0
IsOnceEach ls = (i j : ℕ) → i < j → j < length ls → slice_index ls i ≡ slice_index ls j → ⊥

-- the list has the lifetimes that outlive s and no others, each once, and s first
pub record ListsLonger (e : Environment) (s : ℕ) (ls : List ℕ) : Type 0 where
  pub first : slice_get ls 0 ≡ Some s
  pub outlive : (l : ℕ) → (Contains ls l ↔ Outlives (longer_of e) l s)
  pub once : IsOnceEach ls

-- how many bounds are declared: two in the example
abbrev pub bounds_declared : Environment → ℕ
bounds_declared e = sum_by (λ b. length b.longer) e.bounds
