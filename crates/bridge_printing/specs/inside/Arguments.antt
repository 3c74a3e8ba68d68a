-- The arguments of a text, as they are printed one after another.
use Rattle.std.specs.Prelude.{ℕ, zero, suc, List, [], Option, Some, None, slice_get}

-- an argument, where there is one
abbrev pub or_nothing : Option (List ℕ) → List ℕ
or_nothing None = []
or_nothing (Some arg) = arg

-- what stands before the piece at a place: nothing before the first, and the argument of the number before else
abbrev pub argument_before : List (List ℕ) → ℕ → List ℕ
argument_before args zero = []
argument_before args (suc place) = or_nothing (slice_get args place)
