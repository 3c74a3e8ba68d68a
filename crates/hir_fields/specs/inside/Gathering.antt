-- A list that grows where each of its parts is made.
use Rattle.std.specs.Prelude.{List, [], ◌∷◌, ◌++◌, Option, Some, None}

-- one more, where all before it and it itself are made
abbrev pub given_after : {A : Type 0} → Option (List A) → Option A → Option (List A)
given_after (Some xs) (Some x) = Some (xs ++ x ∷ [])
given_after _ _ = None
