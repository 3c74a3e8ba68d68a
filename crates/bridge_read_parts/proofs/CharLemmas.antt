-- Texts of one character, and texts of digits.
use Rattle.std.proofs.Common.{◌≡◌, ℕ, zero, suc, ◌+◌, ◌<◌, Bool, true, false, ◌&&◌, List, [], ◌∷◌, ◌++◌, length, get_or, drop, Some, None, IsUtf8, refl, sym, add-one, arith}
use Rattle.std.specs.Char.{encode_utf8, is_ascii_digit}
use Rattle.std.specs.Str.{all_ascii_digits}
use Rattle.std.proofs.lemmas.Str.{IsUtf8-past_char, chars_past_char, chars-nil}
use Rattle.bridge_read_parts.specs.forms.Attrs.{sole_char}

no_bytes : (bs : List ℕ) → length bs ≡ 0 → bs ≡ []
no_bytes [] e = refl
no_bytes (b ∷ bs) e = absurd (omega (arith, e))

pub one_char : (bs rest : List ℕ) (c : ℕ) → IsUtf8 bs → bs ≡ encode_utf8 c ++ rest → length rest ≡ 0 → sole_char bs ≡ Some c
unfolding sole_char
one_char bs rest c utf8 e last = rw (chars_past_char bs rest c utf8 e, no_bytes rest last, chars-nil) refl

pub two_chars : (bs rest more : List ℕ) (c d : ℕ) → IsUtf8 bs → bs ≡ encode_utf8 c ++ rest → rest ≡ encode_utf8 d ++ more → sole_char bs ≡ None
unfolding sole_char
two_chars bs rest more c d utf8 e next = rw (chars_past_char bs rest c utf8 e, chars_past_char rest more d (IsUtf8-past_char bs rest c utf8 e) next) refl

pub no_char : (bs : List ℕ) → length bs ≡ 0 → sole_char bs ≡ None
unfolding sole_char
no_char bs e = rw (no_bytes bs e, chars-nil) refl

and_none : (b c : Bool) → b ≡ false → b && c ≡ false
and_none true c e = absurd cc
and_none false c e = refl

and_then : (b c : Bool) → b ≡ true → b && c ≡ c
and_then true c e = refl
and_then false c e = absurd cc

-- a loop over digits: what is left decides while all before are digits
pub digit_next : (bs : List ℕ) (i d : ℕ) → i < length bs → is_ascii_digit (get_or bs i d) ≡ true → all_ascii_digits (drop (i + 1) bs) ≡ all_ascii_digits (drop i bs)
digit_next bs i d lt e = rw add-one (sym (digit_at bs i d lt e))
  where
    digit_at : (bs : List ℕ) (i d : ℕ) → i < length bs → is_ascii_digit (get_or bs i d) ≡ true → all_ascii_digits (drop i bs) ≡ all_ascii_digits (drop (suc i) bs)
    digit_at [] i d lt e = absurd (omega arith)
    digit_at (b ∷ bs) zero d lt e = and_then (is_ascii_digit b) (all_ascii_digits bs) e
    digit_at (b ∷ bs) (suc i) d lt e = digit_at bs i d (omega arith) e

pub other_stops : (bs : List ℕ) (i d : ℕ) → i < length bs → is_ascii_digit (get_or bs i d) ≡ false → all_ascii_digits (drop i bs) ≡ false
other_stops [] i d lt e = absurd (omega arith)
other_stops (b ∷ bs) zero d lt e = and_none (is_ascii_digit b) (all_ascii_digits bs) e
other_stops (b ∷ bs) (suc i) d lt e = other_stops bs i d (omega arith) e
