-- The segments of a place, as they are printed one after another.
use Rattle.std.specs.Prelude.{ℕ, List, [], ◌∷◌, ◌++◌, Bool, true, false, codes}

-- what stands before a segment, where there is one before it
abbrev pub separator_if : Bool → List ℕ
separator_if true = codes "::"
separator_if false = []

-- segments, where there is one before them or isn't
abbrev pub joined_after : Bool → List (List ℕ) → List ℕ
joined_after after [] = []
joined_after after (segment ∷ segments) = separator_if after ++ segment ++ joined_after true segments

-- whether there is one after them
abbrev pub any_after : Bool → List (List ℕ) → Bool
any_after after [] = after
any_after after (segment ∷ segments) = true

-- what is printed where there is none
abbrev pub root_text : Bool → List ℕ
root_text true = []
root_text false = codes "root module"
