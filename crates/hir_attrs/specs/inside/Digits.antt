-- Digits as they are read one by one.
use Rattle.std.specs.Prelude.{ℕ, ◌+◌, ◌-◌, ◌*◌, List, [], ◌∷◌, ◌&&◌, Option, Some, None, if◌then◌else◌, nat_le}
use Rattle.hir_attrs.specs.Values.{is_digit, most_integer}

-- a number with one more digit after it, where it is a digit and the number isn't above the greatest
abbrev pub next_value : ℕ → ℕ → Option ℕ
next_value value byte = if is_digit byte && nat_le (value * 10 + (byte - 48)) most_integer then Some (value * 10 + (byte - 48)) else None

abbrev pub then_next : Option ℕ → ℕ → Option ℕ
then_next None byte = None
then_next (Some value) byte = next_value value byte

-- the number that a text writes after a number
abbrev pub value_from : Option ℕ → List ℕ → Option ℕ
value_from value [] = value
value_from value (byte ∷ bytes) = value_from (then_next value byte) bytes
