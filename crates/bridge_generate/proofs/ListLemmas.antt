-- Lists that grow by what belongs to each number, and texts that begin with different bytes.
use Rattle.std.proofs.Common.{◌≡◌, ◌≢◌, ℕ, ◌+◌, List, [], ◌∷◌, ◌++◌, map, sym, ap, ◌∙◌, append_assoc, arith}
use Rattle.std.specs.List.{range_with_len}
use Rattle.std.proofs.lemmas.List.FromFn.{map-range_with_len_more}

-- what belongs to the next number at the end
pub one_more : {X : Type 0} (f : ℕ → X) (before so_far after : List X) (number : ℕ) (next : X) → next ≡ f number
    → so_far ≡ before ++ map f (range_with_len 0 number) → after ≡ so_far ++ next ∷ []
    → after ≡ before ++ map f (range_with_len 0 (number + 1))
one_more f before so_far after number next is made pushed =
    pushed ∙ ap (λ xs. xs ++ next ∷ []) made ∙ ap (λ x. (before ++ map f (range_with_len 0 number)) ++ x ∷ []) is
    ∙ append_assoc before (map f (range_with_len 0 number)) (f number ∷ [])
    ∙ ap (λ xs. before ++ xs) (sym (map-range_with_len_more f 0 number number (omega arith)))

-- texts that begin with different bytes
pub begin_apart : (a b : ℕ) (xs ys : List ℕ) → a ≢ b → a ∷ xs ≢ b ∷ ys
begin_apart a b xs ys differ same = differ cc
