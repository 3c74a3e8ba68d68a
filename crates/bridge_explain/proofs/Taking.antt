-- A place is taken off a word segment by segment.
use Rattle.std.proofs.Common.{◌≡◌, ◌<◌, ◌+◌, ◌++◌, ℕ, zero, suc, List, Option, length, take, get_or, nat_lt, refl, sym, ap, ◌∙◌, arith}
use Rattle.std.proofs.lemmas.Bool.{lt-ltb}
use Rattle.std.specs.Prelude.{codes}
use Rattle.std.specs.List.{join_by}
use Rattle.bridge_comparing.specs.Words.{once_taken}
use Rattle.bridge_comparing.proofs.WordLemmas.{after_both}
use Rattle.bridge_outside.specs.Printing.{separator_at}
use Rattle.bridge_outside.proofs.JoinedLists.{join_by-more}
use Rattle.bridge_printing.specs.inside.Segments.{separator_if}

separator_is : (place : ℕ) → separator_if (nat_lt 0 place) ≡ separator_at (codes "::") place
separator_is zero = refl
separator_is (suc place) = ap separator_if (lt-ltb 0 (suc place) (omega arith))

-- one more segment of a path
pub segment_taken : (path : List (List ℕ)) (i : ℕ) (segment : List ℕ) (start before left : Option (List ℕ)) → before ≡ once_taken (join_by (λ s. s) (codes "::") (take i path)) start
    → left ≡ once_taken (separator_if (nat_lt 0 i) ++ segment) before → i < length path → segment ≡ get_or path i segment
    → left ≡ once_taken (join_by (λ s. s) (codes "::") (take (i + 1) path)) start
segment_taken path i segment start before left so_far now within is =
    now ∙ ap (once_taken (separator_if (nat_lt 0 i) ++ segment)) so_far
    ∙ sym (after_both (join_by (λ s. s) (codes "::") (take i path)) (separator_if (nat_lt 0 i) ++ segment) start)
    ∙ ap (λ separator. once_taken (join_by (λ s. s) (codes "::") (take i path) ++ (separator ++ segment)) start) (separator_is i)
    ∙ ap (λ text. once_taken text start) (sym (join_by-more (λ s. s) (codes "::") path i segment within is))

-- four texts in a row
pub four_taken : (a b c d : List ℕ) (zeroth first second third last : Option (List ℕ)) → first ≡ once_taken a zeroth → second ≡ once_taken b first → third ≡ once_taken c second
    → last ≡ once_taken d third → last ≡ once_taken (a ++ b ++ c ++ d) zeroth
four_taken a b c d zeroth first second third last taken_a taken_b taken_c taken_d =
    taken_d ∙ ap (once_taken d) (taken_c ∙ ap (once_taken c) (taken_b ∙ ap (once_taken b) taken_a ∙ sym (after_both a b zeroth)) ∙ sym (after_both (a ++ b) c zeroth))
    ∙ sym (after_both (a ++ b ++ c) d zeroth)
