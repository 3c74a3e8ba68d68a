-- Digits that are read one by one, and the number that they write.
use Rattle.std.proofs.Common.{◌≡◌, ℕ, ◌+◌, ◌-◌, ◌*◌, ◌≤◌, ◌<◌, ◌==◌, Bool, true, false, true≢false, cond, ◌&&◌, length, List, [], ◌∷◌, Option, Some, None, refl, sym, ap, ◌∙◌, arith}
use Rattle.std.specs.Prelude.{nat_le}
use Rattle.std.specs.List.{list_all}
use Rattle.std.proofs.lemmas.Bool.{le-leb, lt-leb, leb-true, leb-false}
use Rattle.hir_attrs.specs.Values.{most_integer, is_digit, number_after, written_integer}
use Rattle.hir_attrs.specs.inside.Digits.{next_value, then_next, value_from}

-- what isn't a number stays none
pub none_stays : (bytes : List ℕ) → value_from None bytes ≡ None
none_stays [] = refl
none_stays (byte ∷ bytes) = none_stays bytes

-- a number doesn't fall as digits are added
grows : (number : ℕ) (bytes : List ℕ) → number ≤ number_after number bytes
grows number [] = omega arith
grows number (byte ∷ bytes) =
    let more = grows (number * 10 + (byte - 48)) bytes in
    let step : number ≤ number * 10 + (byte - 48) = omega arith in
    omega (arith, more, step)

-- what is written, where all are digits and the number isn't above the greatest
abbrev written : Bool → ℕ → Option ℕ
written fits number = cond fits (Some number) None

and-false : (b : Bool) → (b && false) ≡ false
and-false true = refl
and-false false = refl

-- by whether the first byte is a digit, and whether the number with it is small enough
reads_on : (next : ℕ) (bytes : List ℕ) (digit small : Bool) → nat_le next most_integer ≡ small
    → (next ≤ most_integer → value_from (Some next) bytes ≡ written (list_all is_digit bytes && nat_le (number_after next bytes) most_integer) (number_after next bytes))
    → value_from (cond (digit && small) (Some next) None) bytes
    ≡ written ((digit && list_all is_digit bytes) && nat_le (number_after next bytes) most_integer) (number_after next bytes)
reads_on next bytes false small fits more = none_stays bytes
reads_on next bytes true true fits more = more (leb-true _ _ fits)
reads_on next bytes true false fits more =
    let above : most_integer < number_after next bytes = omega (arith, grows next bytes, leb-false next most_integer fits) in
    none_stays bytes
    ∙ sym (ap (λ b. written b (number_after next bytes)) (ap (λ b. list_all is_digit bytes && b) (lt-leb _ _ above) ∙ and-false (list_all is_digit bytes)))

reads : (number : ℕ) (bytes : List ℕ) → number ≤ most_integer
    → value_from (Some number) bytes ≡ written (list_all is_digit bytes && nat_le (number_after number bytes) most_integer) (number_after number bytes)
reads number [] small = sym (ap (λ b. written b number) (le-leb number most_integer small))
reads number (byte ∷ bytes) small =
    reads_on (number * 10 + (byte - 48)) bytes (is_digit byte) (nat_le (number * 10 + (byte - 48)) most_integer) refl
    (reads (number * 10 + (byte - 48)) bytes)

-- what is read of a text that isn't empty is the number that it writes
pub reads_number : (text : List ℕ) → (length text == 0) ≡ false → value_from (Some 0) text ≡ written_integer text
reads_number [] named = absurd (true≢false named)
reads_number (digit ∷ digits) named = reads 0 (digit ∷ digits) (omega arith)
