-- Pieces of a text with an argument between each two, one piece after another.
use Rattle.std.proofs.Common.{◌≡◌, ℕ, zero, suc, ◌+◌, ◌-◌, ◌<◌, ◌≤◌, List, [], ◌∷◌, ◌++◌, Bor, length, map, take, get_or, refl, sym, ap, ◌∙◌, append_assoc, arith}
use Rattle.std.proofs.lemmas.List.{take_more}
use Rattle.std.proofs.lemmas.Option.{slice_get_past}
use Rattle.hir_reports.specs.Texts.{woven}
use Rattle.bridge_printing.specs.inside.Arguments.{argument_before, or_nothing}

abbrev pub told : List (Bor (List ℕ)) → List (List ℕ)
told pieces = map (λ piece. piece.now) pieces

-- one more piece
next_woven : (pieces : List (Bor (List ℕ))) (last : Bor (List ℕ)) (args : List (List ℕ))
    → woven (told (pieces ++ last ∷ [])) args ≡ woven (told pieces) args ++ (argument_before args (length pieces) ++ last.now)
next_woven [] last args = refl
next_woven (p ∷ []) last [] = refl
next_woven (p ∷ []) last (arg ∷ args) = append_assoc p.now arg last.now
next_woven (p ∷ q ∷ pieces) last [] =
    ap (λ text. p.now ++ text) (next_woven (q ∷ pieces) last [])
    ∙ sym (append_assoc p.now (woven (told (q ∷ pieces)) []) last.now)
next_woven (p ∷ q ∷ pieces) last (arg ∷ args) =
    ap (λ text. (p.now ++ arg) ++ text) (next_woven (q ∷ pieces) last args)
    ∙ sym (append_assoc (p.now ++ arg) (woven (told (q ∷ pieces)) args) (argument_before args (length (q ∷ pieces)) ++ last.now))

length_taken : (pieces : List (Bor (List ℕ))) (i : ℕ) → i < length pieces → length (take i pieces) ≡ i
length_taken [] i within = absurd (omega (arith, within))
length_taken (p ∷ pieces) zero within = refl
length_taken (p ∷ pieces) (suc i) within = ap suc (length_taken pieces i (omega (arith, within)))

pub piece_woven : (pieces : List (Bor (List ℕ))) (args : List (List ℕ)) (i : ℕ) (other : Bor (List ℕ)) → i < length pieces
    → woven (told (take i pieces)) args ++ (argument_before args i ++ (get_or pieces i other).now) ≡ woven (told (take (i + 1) pieces)) args
piece_woven pieces args i other within =
    ap (λ n. woven (told (take i pieces)) args ++ (argument_before args n ++ (get_or pieces i other).now)) (sym (length_taken pieces i within))
    ∙ sym (next_woven (take i pieces) (get_or pieces i other) args)
    ∙ sym (ap (λ ps. woven (told ps) args) (take_more pieces i other within))

-- where there is no argument
pub none_before : (args : List (List ℕ)) (place : ℕ) → (place ≡ 0 → ⊥) → length args ≤ place - 1 → [] ≡ argument_before args place
none_before args zero never past = absurd (never refl)
none_before args (suc number) never past = ap or_nothing (sym (slice_get_past args number (omega (arith, past))))
