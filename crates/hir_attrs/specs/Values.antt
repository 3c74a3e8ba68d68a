-- The values that parameters have by default.
use Rattle.std.specs.Prelude.{ℕ, ◌+◌, ◌-◌, ◌*◌, List, [], ◌∷◌, Bool, true, false, ◌&&◌, Option, Some, None, option_map, pos, if◌then◌else◌, nat_le}
use Rattle.std.specs.List.{list_all}
use Rattle.bridge_decl.specs.declared.attrs.Lit.{Lit}
use Rattle.bridge_decl.specs.declared.attrs.Lit.TheVariants as lit
use Rattle.hir_attrs.specs.declared.values.DefaultArgValue.{DefaultArgValue}
use Rattle.hir_attrs.specs.declared.values.DefaultArgValue.TheVariants as default

-- the greatest value of an `i128`, 2 to the power of 127 less one
abbrev pub most_integer : ℕ
most_integer = 170141183460469231731687303715884105727

abbrev pub is_digit : ℕ → Bool
is_digit byte = nat_le 48 byte && nat_le byte 57

-- what decimal digits come to, after those that come to a number
abbrev pub number_after : ℕ → List ℕ → ℕ
number_after number [] = number
number_after number (digit ∷ digits) = number_after (number * 10 + (digit - 48)) digits

-- the number that a text writes, where it is one or more decimal digits and the number isn't above the greatest
abbrev pub written_integer : List ℕ → Option ℕ
written_integer [] = None
written_integer (digit ∷ digits) =
    if list_all is_digit (digit ∷ digits) && nat_le (number_after 0 (digit ∷ digits)) most_integer
    then Some (number_after 0 (digit ∷ digits)) else None

-- the value that a literal gives a parameter: a byte counts as the character of its number
abbrev pub default_of : Lit → Option DefaultArgValue
default_of (lit.Bool value) = Some (default.Bool value)
default_of (lit.Char value) = Some (default.Char value)
default_of (lit.Byte value) = Some (default.Char value)
default_of (lit.Int digits) = option_map (λ number. default.Integer (pos number)) (written_integer digits)
default_of lit.Float = None
default_of (lit.Str text) = None
default_of lit.Other = None
