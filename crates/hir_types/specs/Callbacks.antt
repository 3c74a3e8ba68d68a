-- What stands where there may be nothing.
use Rattle.std.specs.Prelude.{Option, Some, None}

-- what is made of the value, where there is one
abbrev pub of_some : {A B : Type 0} → (A → Option B) → Option A → Option B
of_some f None = None
of_some f (Some x) = f x
