-- The first of a list that isn't among some others. The example throughout is the list a, b, a, c.
use Rattle.std.specs.Prelude.{◌≡◌, ℕ, List, ◌∷◌, ◌++◌}
use Rattle.std.specs.List.{Contains}

-- l stands in the list, and all that stand before it there were given. So where l wasn't given it is the first in the list
-- that wasn't: b where a was given, and c where a and b were
pub record IsFirstNotIn (given list : List ℕ) (l : ℕ) : Type 0 where
  pub before : List ℕ
  pub after : List ℕ
  pub split : list ≡ before ++ l ∷ after
  pub given_before : (k : ℕ) → Contains before k → Contains given k
