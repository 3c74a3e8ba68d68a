-- Lists that are made element by element.
use Rattle.std.specs.Prelude.{ℕ, List, [], ◌∷◌, ◌++◌, length}

-- what each element gives after those of before, one after another; f is told the elements that stand before it
abbrev pub each_after : {X Y : Type 0} → (List X → X → List Y) → List X → List X → List Y
each_after f before [] = []
each_after f before (x ∷ xs) = f before x ++ each_after f (before ++ x ∷ []) xs

-- what each element of a list gives, one after another
abbrev pub each : {X Y : Type 0} → (List X → X → List Y) → List X → List Y
each f xs = each_after f [] xs

-- each element with its number, counted from 0
abbrev pub each_numbered : {X Y : Type 0} → (ℕ → X → Y) → List X → List Y
each_numbered f xs = each (λ before x. f (length before) x ∷ []) xs
