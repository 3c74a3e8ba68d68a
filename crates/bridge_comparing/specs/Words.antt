-- What is left of a word once pieces are taken off its front.
use Rattle.std.specs.Prelude.{ℕ, List, [], ◌∷◌, ◌==◌, Option, Some, None, cond}

-- nothing is left where the text isn't at the front
abbrev pub once_taken : List ℕ → Option (List ℕ) → Option (List ℕ)
once_taken [] left = left
once_taken (x ∷ text) None = None
once_taken (x ∷ text) (Some []) = None
once_taken (x ∷ text) (Some (y ∷ left)) = cond (y == x) (once_taken text (Some left)) None
