-- Lemmas on the shape of identifiers.
use Rattle.std.proofs.Common.{◌≡◌, ℕ, Bool, true, false, List, [], ◌∷◌, ◌++◌, IsTrue, ◌↔◌, refl, sym, subst, ◌∙◌, arith, inl, inr}
use Rattle.std.proofs.Common.{◌⊎◌, lit<, codes}
use Rattle.std.specs.Str.{chars, IsUtf8}
use Rattle.std.specs.List.{list_all}
use Rattle.std.specs.Char.{encode_utf8}
use Rattle.std.proofs.lemmas.Str.{chars_past_char}
use Rattle.std.proofs.lemmas.List.Sums.{AllPass-from_list_all, list_all-from_AllPass}
use Rattle.bridge_text.specs.Ident.{HasShape, MayStart, IsPlain, IsIdent, IsRaw, MayBeRaw}
use Rattle.unicode_ident.specs.Ident.{is_xid_continue}
use Rattle.unicode_ident.proofs.IdentLemmas.{is_xid_continue-ascii}

-- a text of a character that may begin an identifier and a rest: it has the shape where the rest goes on with one
pub shaped : (text rest : List ℕ) (first : ℕ) (r : Bool) → IsUtf8 text → text ≡ encode_utf8 first ++ rest → MayStart first
    → r ≡ list_all is_xid_continue (chars rest) → IsTrue r ↔ HasShape (chars text)
shaped text rest first r utf8 e starts answer =
    rw (chars_past_char text rest first utf8 e) (
      λ t. (starts, AllPass-from_list_all is_xid_continue (chars rest) (sym answer ∙ t)),
      λ shape. answer ∙ list_all-from_AllPass is_xid_continue (chars rest) shape.1,
    )

-- the characters of a text that begins with `r#`
chars-raw : (rest : List ℕ) → (more : List ℕ) × (chars (114 ∷ 35 ∷ rest) ≡ 114 ∷ 35 ∷ more)
unfolding chars
chars-raw [] = ([], refl)
chars-raw (b ∷ bs) = (_, refl)

-- `#` goes on with no identifier
hash_ends : is_xid_continue 35 ≡ false
hash_ends = is_xid_continue-ascii 35 (lit< tt)

not_plain : (rest : List ℕ) → IsPlain (114 ∷ 35 ∷ rest) → ⊥
not_plain rest plain =
    let split = chars-raw rest in
    let shape : HasShape (114 ∷ 35 ∷ split.0) = subst HasShape split.1 plain.shape in
    let hash : is_xid_continue 35 ≡ true = shape.1 0 0 (omega arith) in
    let no = hash_ends in cc

only_raw : (text name : List ℕ) → text ≡ codes "r#" ++ name → IsPlain text ⊎ IsRaw text → MayBeRaw name
only_raw text name e (inl plain) = absurd (not_plain name (subst IsPlain e plain))
only_raw text name e (inr (other, f, may)) = let same : other ≡ name = cc in subst MayBeRaw same may

-- a text with `r#` is an identifier where what follows may be a raw one
pub stripped : (text name : List ℕ) (r : Bool) → text ≡ codes "r#" ++ name → (IsTrue r ↔ MayBeRaw name) → IsTrue r ↔ IsIdent text
unfolding IsIdent
stripped text name r e answer = (λ t. inr (name, e, answer.0 t), λ ident. answer.1 (only_raw text name e ident))
