-- A literal gives no default value exactly where it is a bad one.
use Rattle.std.proofs.Common.{◌≡◌, ◌⊎◌, ◌↔◌, inl, inr, ℕ, ◌<◌, List, [], ◌∷◌, Bool, true, false, ◌&&◌, cond, Option, Some, None, option_map, pos, refl, sym, ap, ◌∙◌}
use Rattle.std.specs.Prelude.{nat_le}
use Rattle.std.specs.List.{Contains, list_all}
use Rattle.std.proofs.lemmas.Bool.{leb-false, lt-leb}
use Rattle.bridge_telling.proofs.ExactLemmas.{in_cases, in_first, in_none, in_rest}
use Rattle.bridge_decl.specs.declared.attrs.Lit.{Lit}
use Rattle.bridge_decl.specs.declared.attrs.Lit.TheVariants as lit
use Rattle.hir_attrs.specs.Values.{default_of, is_digit, most_integer, number_after, written_integer}
use Rattle.hir_attrs.specs.declared.values.DefaultArgValue.TheVariants as default
use Rattle.hir_mark_rules.specs.rules.BadDefaultValue.{IsBadDefault}

both_pass : (a b : Bool) → (a && b) ≡ false → (a ≡ false) ⊎ (b ≡ false)
both_pass true b h = inr h
both_pass false b h = inl refl

-- where not all pass a test, one fails
one_fails : {X : Type 0} (p : X → Bool) (xs : List X) → list_all p xs ≡ false → (x : X) × (Contains xs x × (p x ≡ false))
one_fails p [] h = cc
one_fails p (x ∷ xs) h = elim (both_pass (p x) (list_all p xs) h) [
  | inl is ↦ (x, (in_first x xs, is))
  | inr more ↦ let found = one_fails p xs more in (found.0, (in_rest x xs found.0 found.1.0, found.1.1))
]

and_false : (b : Bool) → (b && false) ≡ false
and_false true = refl
and_false false = refl

fails_all : {X : Type 0} (p : X → Bool) (xs : List X) (x : X) → Contains xs x → p x ≡ false → list_all p xs ≡ false
fails_all p [] x in' fails = absurd (in_none x in')
fails_all p (y ∷ ys) x in' fails = elim (in_cases y ys x in') [
  | inl is ↦ ap (λ b. b && list_all p ys) (ap p (sym is) ∙ fails)
  | inr more ↦ ap (λ b. p y && b) (fails_all p ys x more fails) ∙ and_false (p y)
]

-- what isn't a digit stands before them or after
no_digit : (byte : ℕ) → is_digit byte ≡ false → (byte < 48) ⊎ (57 < byte)
no_digit byte h = elim (both_pass (nat_le 48 byte) (nat_le byte 57) h) [ inl below ↦ inl (leb-false 48 byte below) | inr above ↦ inr (leb-false byte 57 above) ]

not_digit : (byte : ℕ) → (byte < 48) ⊎ (57 < byte) → is_digit byte ≡ false
not_digit byte (inl below) = ap (λ b. b && nat_le byte 57) (lt-leb 48 byte below)
not_digit byte (inr above) = ap (λ b. nat_le 48 byte && b) (lt-leb byte 57 above) ∙ and_false (nat_le 48 byte)

-- the number that some text writes, by whether it does
written_if : (fits : Bool) (number : ℕ) → cond fits (Some number) None ≡ None → fits ≡ false
written_if true number h = cc
written_if false number h = refl

none_written : (text : List ℕ) → written_integer text ≡ None → IsBadDefault (lit.Int text)
none_written [] h = IsBadDefault.no_digits
none_written (digit ∷ digits) h = elim (both_pass (list_all is_digit (digit ∷ digits)) (nat_le (number_after 0 (digit ∷ digits)) most_integer) (written_if (list_all is_digit (digit ∷ digits) && nat_le (number_after 0 (digit ∷ digits)) most_integer) (number_after 0 (digit ∷ digits)) h)) [
  | inl some ↦ let found = one_fails is_digit (digit ∷ digits) some in IsBadDefault.no_digit (digit ∷ digits) found.0 found.1.0 (no_digit found.0 found.1.1)
  | inr large ↦ IsBadDefault.too_large (digit ∷ digits) (leb-false (number_after 0 (digit ∷ digits)) most_integer large)
]

not_written : (text : List ℕ) → (list_all is_digit text ≡ false) ⊎ (nat_le (number_after 0 text) most_integer ≡ false) → written_integer text ≡ None
not_written [] h = refl
not_written (digit ∷ digits) (inl some) = ap (λ b. cond (b && nat_le (number_after 0 (digit ∷ digits)) most_integer) (Some (number_after 0 (digit ∷ digits))) None) some
not_written (digit ∷ digits) (inr large) = ap (λ b. cond b (Some (number_after 0 (digit ∷ digits))) None) (ap (λ b. list_all is_digit (digit ∷ digits) && b) large ∙ and_false (list_all is_digit (digit ∷ digits)))

map_none : {A B : Type 0} (f : A → B) (x : Option A) → option_map f x ≡ None → x ≡ None
map_none f None h = refl
map_none f (Some x) h = cc

pub bad_default : (literal : Lit) → default_of literal ≡ None → IsBadDefault literal
bad_default (lit.Bool value) h = cc
bad_default (lit.Char value) h = cc
bad_default (lit.Byte value) h = cc
bad_default (lit.Int digits) h = none_written digits (map_none (λ number. default.Integer (pos number)) (written_integer digits) h)
bad_default lit.Float h = IsBadDefault.float
bad_default (lit.Str text) h = IsBadDefault.string text
bad_default lit.Other h = IsBadDefault.other

gives_none : (text : List ℕ) → written_integer text ≡ None → default_of (lit.Int text) ≡ None
gives_none text h = ap (option_map (λ number. default.Integer (pos number))) h

pub no_default : (literal : Lit) → IsBadDefault literal → default_of literal ≡ None
no_default literal IsBadDefault.float = refl
no_default literal (IsBadDefault.string text) = refl
no_default literal IsBadDefault.other = refl
no_default literal IsBadDefault.no_digits = refl
no_default literal (IsBadDefault.no_digit text byte in' is) = gives_none text (not_written text (inl (fails_all is_digit text byte in' (not_digit byte is))))
no_default literal (IsBadDefault.too_large text large) = gives_none text (not_written text (inr (lt-leb (number_after 0 text) most_integer large)))

-- a literal gives no default value exactly where it is a bad one
pub defaults_exactly : (literal : Lit) → (default_of literal ≡ None) ↔ IsBadDefault literal
defaults_exactly literal = (bad_default literal, no_default literal)
