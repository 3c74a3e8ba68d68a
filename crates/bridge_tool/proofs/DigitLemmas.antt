-- What digits write, one after another.
use Rattle.std.proofs.Common.{◌≡◌, ◌≤◌, ◌<◌, ◌+◌, ◌-◌, ◌*◌, ℕ, zero, suc, List, [], ◌∷◌, length, drop, get_or, refl, sym, ap, ◌∙◌, arith}
use Rattle.bridge_tool.specs.Commands.{digits_after}

-- it never falls
pub at_least : (n : ℕ) (word : List ℕ) → n ≤ digits_after n word
at_least n [] = omega arith
at_least n (c ∷ word) = let rest = at_least (n * 10 + (c - 48)) word in omega (arith, rest)

-- one more digit
digit_next : (n : ℕ) (word : List ℕ) (i : ℕ) → i < length word
    → digits_after n (drop i word) ≡ digits_after (n * 10 + (get_or word i 0 - 48)) (drop (suc i) word)
digit_next n [] i within = absurd (omega (arith, within))
digit_next n (d ∷ word) zero within = refl
digit_next n (d ∷ word) (suc i) within = digit_next n word i (omega (arith, within))

pub digit_more : (n : ℕ) (word : List ℕ) (i digit : ℕ) → i < length word → digit ≡ get_or word i 0 - 48
    → digits_after (n * 10 + digit) (drop (i + 1) word) ≡ digits_after n (drop i word)
digit_more n word i digit within is =
    let next : i + 1 ≡ suc i = omega arith in
    ap (λ d. digits_after (n * 10 + d) (drop (i + 1) word)) is ∙ ap (λ j. digits_after (n * 10 + (get_or word i 0 - 48)) (drop j word)) next
    ∙ sym (digit_next n word i within)
