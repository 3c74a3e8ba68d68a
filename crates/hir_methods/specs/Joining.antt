-- Lists that are joined, one at its place with one at the same place.
use Rattle.std.specs.Prelude.{List, [], ◌∷◌}

-- each of the first list with that which it lacks, as far as there are both
abbrev pub completed : {A L W : Type 0} → (A → L → W) → List A → List L → List W
completed f [] lacking = []
completed f (part ∷ parts) [] = []
completed f (part ∷ parts) (ty ∷ types) = f part ty ∷ completed f parts types
