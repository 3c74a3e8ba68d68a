-- Chains, in which each holds the next: `Found`, `Pair`, `Line`. What holds what is given.
use Rattle.std.specs.Prelude.{◌≡◌, ℕ, ◌+◌, ◌≤◌, List, [], ◌∷◌, length}

module _ {X : Type 0} (Holds : X → X → Type 0) where
  -- x and those of the list after it are a chain
  abbrev pub IsChainBy : X → List X → Type 0
  IsChainBy x [] = Unit {0}
  IsChainBy x (next ∷ rest) = Holds x next × IsChainBy next rest

  -- they are a chain that ends with y
  abbrev pub ChainLeadsBy : X → List X → X → Type 0
  ChainLeadsBy x [] y = x ≡ y
  ChainLeadsBy x (next ∷ rest) y = Holds x next × ChainLeadsBy next rest y

  -- some chain leads from x to y, and y isn't just its start: `Chain` reaches itself
  pub record ReachesBy (x y : X) : Type 0 where
    pub next : X
    pub rest : List X
    pub linked : ChainLeadsBy x (next ∷ rest) y

  -- the chains from x end: a longest has so many, with x itself
  pub record IsLongestBy (x : X) (count : ℕ) : Type 0 where
    pub rest : List X
    pub chain : IsChainBy x rest
    pub counted : length rest + 1 ≡ count
    pub most : (other : List X) → IsChainBy x other → length other + 1 ≤ count
