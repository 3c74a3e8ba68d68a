-- Tests of what may be there.
use Rattle.std.specs.Prelude.{Bool, false, Option, Some, None}

-- there is one that passes
abbrev pub is_some_such : {A : Type 0} → (A → Bool) → Option A → Bool
is_some_such test None = false
is_some_such test (Some x) = test x
