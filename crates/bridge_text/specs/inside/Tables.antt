-- Tables that are searched by halves.
use Rattle.std.specs.Prelude.{List, [], ◌∷◌, Bool, true, ◌&&◌, not}

-- whether no element of a list is less than the one before it
abbrev pub rises : {X : Type 0} → (X → X → Bool) → List X → Bool
rises is_less [] = true
rises is_less (x ∷ []) = true
rises is_less (x ∷ y ∷ ys) = not (is_less y x) && rises is_less (y ∷ ys)
