-- A letter with digits behind it is an identifier, and so is a letter alone.
use Rattle.std.proofs.Common.{◌≡◌, ◌≢◌, ℕ, zero, suc, ◌^◌, ◌<◌, ◌≤◌, true, List, [], ◌∷◌, get_or, decimal, IsTrue}
use Rattle.std.proofs.Common.{refl, sym, ◌∙◌, subst, arith, inl}
use Rattle.std.specs.Prelude.{codes, nat_le, All, Contains}
use Rattle.std.specs.Char.{is_ascii_alphabetic}
use Rattle.std.specs.Str.{IsAscii, chars}
use Rattle.std.specs.Str.Parse.{AllDigits}
use Rattle.std.proofs.lemmas.Bool.{leb-true}
use Rattle.std.proofs.lemmas.Bool.Decides.{nat_tests}
use Rattle.std.proofs.lemmas.Fmt.{IsAscii-from_digits, decimal_is_IsNumeral}
use Rattle.std.proofs.lemmas.List.Elements.{All-contains}
use Rattle.std.proofs.lemmas.List.Sums.{AllPass-from_list_all}
use Rattle.std.proofs.lemmas.Str.{chars-IsAscii}
use Rattle.std.proofs.lemmas.Str.Parse.{digit_from_value}
use Rattle.bridge_text.specs.Ident.{HasShape, IsIdent, MayStart, reserved_words}
use Rattle.unicode_ident.specs.Ident.{is_xid_continue}
use Rattle.unicode_ident.proofs.IdentLemmas.{is_xid_continue-ascii, is_xid_start-ascii}

-- a digit goes on with an identifier
digit_goes_on : (c : ℕ) → 48 ≤ c → c ≤ 57 → IsTrue (is_xid_continue c)
digit_goes_on c above below = is_xid_continue-ascii c (omega arith) ∙ grind (arith, nat_tests)

digits_go_on : (digits : List ℕ) → AllDigits 10 digits → All (λ c. IsTrue (is_xid_continue c)) digits
digits_go_on [] d k e within = absurd (omega arith)
digits_go_on (c ∷ cs) d zero e within = let is = digit_from_value c d.0 in digit_goes_on c is.0 is.1
digits_go_on (c ∷ cs) d (suc k) e within = digits_go_on cs d.1 k e (omega arith)

-- each word that is reserved has a letter at its second place
reserved_go_on : All (λ word. nat_le 58 (get_or word 1 48) ≡ true) reserved_words
reserved_go_on = AllPass-from_list_all (λ word. nat_le 58 (get_or word 1 48)) reserved_words refl

-- digits have none there
no_letter : (letter : ℕ) (digits : List ℕ) → AllDigits 10 digits → get_or (letter ∷ digits) 1 48 ≤ 57
no_letter letter [] d = omega arith
no_letter letter (c ∷ cs) d = (digit_from_value c d.0).1

not_reserved : (letter : ℕ) (digits : List ℕ) → AllDigits 10 digits → ¬ (Contains reserved_words (letter ∷ digits))
not_reserved letter digits d member =
    let letter_there : 58 ≤ get_or (letter ∷ digits) 1 48 = leb-true 58 (get_or (letter ∷ digits) 1 48)
    (All-contains (λ word. nat_le 58 (get_or word 1 48) ≡ true) reserved_words (letter ∷ digits) reserved_go_on member) in
    omega (arith, no_letter letter digits d)

-- a letter and then digits, or none
module _ (letter : ℕ) (digits : List ℕ) (within : letter < 128) (is : is_ascii_alphabetic letter ≡ true) (d : AllDigits 10 digits) where
  ascii : IsAscii (letter ∷ digits)
  ascii zero = within
  ascii (suc k) = IsAscii-from_digits digits d k

  starts : MayStart letter
  starts = inl (is_xid_start-ascii letter within ∙ is)

  shaped : HasShape (chars (letter ∷ digits))
  shaped = subst HasShape (sym (chars-IsAscii (letter ∷ digits) ascii)) (starts, digits_go_on digits d)

  not_underscore : letter ∷ digits ≢ codes "_"
  not_underscore same =
      let it : letter ≡ 95 = cc in
      let none : is_ascii_alphabetic 95 ≡ true = subst (λ c. is_ascii_alphabetic c ≡ true) it is in
      absurd cc

  pub is_identifier : IsIdent (letter ∷ digits)
  unfolding IsIdent
  is_identifier = inl (record { shape = shaped; not_underscore = not_underscore; not_reserved = not_reserved letter digits d })

-- a letter and then the digits of a number
pub numbered_is_identifier : (letter number : ℕ) → letter < 128 → is_ascii_alphabetic letter ≡ true → number < 2 ^ 64
    → IsIdent (letter ∷ decimal number)
numbered_is_identifier letter number within is fits = is_identifier letter (decimal number) within is (decimal_is_IsNumeral number fits).0.1

-- a letter alone
pub letter_is_identifier : (letter : ℕ) → letter < 128 → is_ascii_alphabetic letter ≡ true → IsIdent (letter ∷ [])
letter_is_identifier letter within is = is_identifier letter [] within is tt
