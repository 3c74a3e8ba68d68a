-- Names as pointers write them, character by character.
use Rattle.std.proofs.Common.{◌≡◌, ℕ, List, [], ◌++◌, length, IsUtf8, refl, sym, ap, ◌∙◌}
use Rattle.std.specs.Char.{encode_utf8}
use Rattle.std.proofs.lemmas.Str.{chars_past_char}
use Rattle.std.proofs.lemmas.List.{append_assoc, append-nil}
use Rattle.std.proofs.StrCases.{chars_of_empty}
use Rattle.bridge_form.specs.PointerTexts.{escaped, escaped_text}

-- a loop writes one character more
pub name_next : (before after all bs rest : List ℕ) (c : ℕ) → IsUtf8 bs → bs ≡ encode_utf8 c ++ rest → after ≡ before ++ escaped c
    → before ++ escaped_text bs ≡ all → after ++ escaped_text rest ≡ all
name_next before after all bs rest c utf8 parts written so_far =
    let first : escaped_text bs ≡ escaped c ++ escaped_text rest = rw (chars_past_char bs rest c utf8 parts) refl in
    rw written (append_assoc before (escaped c) (escaped_text rest) ∙ ap (λ t. before ++ t) (sym first) ∙ so_far)

-- and at the end all is written
pub name_ended : (written all bs : List ℕ) → length bs ≡ 0 → written ++ escaped_text bs ≡ all → written ≡ all
name_ended written all bs none so_far =
    let nothing : escaped_text bs ≡ [] = rw (chars_of_empty bs none) refl in
    sym (append-nil written) ∙ ap (λ t. written ++ t) (sym nothing) ∙ so_far
