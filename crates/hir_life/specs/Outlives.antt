-- Which lifetimes outlive which, by the bounds that are declared. Lifetimes are numbers, and `longer s` is the list of the
-- direct bounds of s. The example throughout is `fn f<'a, 'b: 'a, 'c: 'b>`, in which `longer` of a is b, and of b is c.
use Rattle.std.specs.Prelude.{◌≡◌, ℕ, List, [], ◌∷◌}
use Rattle.std.specs.List.{Contains}

-- l is declared to outlive s: b of a, and c of b
abbrev pub Direct : (ℕ → List ℕ) → ℕ → ℕ → Type 0
Direct longer l s = Contains (longer s) l

-- the lifetime l and those of the list after it end with s, and each is a direct bound of its successor: c, b, a
abbrev pub Linked : (ℕ → List ℕ) → ℕ → List ℕ → ℕ → Type 0
Linked longer l [] s = l ≡ s
Linked longer l (m ∷ rest) s = Direct longer l m × Linked longer m rest s

-- l outlives s: some chain of direct bounds leads from l to s, or l is s. So a, b and c outlive a
pub record Outlives (longer : ℕ → List ℕ) (l s : ℕ) : Type 0 where
  pub chain : List ℕ
  pub linked : Linked longer l chain s
