-- Two lists that go together, each of which may not be made.
use Rattle.std.specs.Prelude.{◌≡◌, ⊤, List, Option, Some, None, length, map}
use Rattle.std.specs.List.{zip}

-- what is made of the first of one and the first of the other, and so on
abbrev pub zipped : {A B C : Type 0} → (A → B → C) → List A → List B → List C
zipped make xs ys = map (λ pair. make pair.0 pair.1) (zip xs ys)

-- so, where both are made
abbrev pub zipped_where_given : {A B C : Type 0} → (A → B → C) → Option (List A) → Option (List B) → Option (List C)
zipped_where_given make (Some xs) (Some ys) = Some (zipped make xs ys)
zipped_where_given make _ _ = None

-- where both are made, one is as long as the other
abbrev pub HaveOneLength : {A B : Type 0} → Option (List A) → Option (List B) → Type 0
HaveOneLength (Some xs) (Some ys) = length xs ≡ length ys
HaveOneLength _ _ = ⊤
