-- A list that is gone through from its last element to its first.
use Rattle.std.proofs.Common.{◌≡◌, List, [], ◌∷◌, ◌++◌, map, reverse, ap, sym, ◌∙◌, append_assoc}
use Rattle.std.proofs.lemmas.Grind.{reverse_onto}
use Rattle.std.proofs.lemmas.List.{reverse-reverse}

-- one more of what was made of the last elements
pub made_more : {A B : Type 0} (f : A → B) (x : A) (rest : List A) (made : List B) → made ≡ reverse (map f rest) → made ++ f x ∷ [] ≡ reverse (map f (x ∷ rest))
made_more f x rest made is = ap (λ ys. ys ++ f x ∷ []) is ∙ sym (reverse_onto (map f rest) (f x) [])

pub taken_last : {A : Type 0} (all left fewer : List A) (x : A) (rest : List A) → all ≡ left ++ rest → left ≡ fewer ++ x ∷ [] → all ≡ fewer ++ x ∷ rest
taken_last all left fewer x rest is last = is ∙ ap (λ xs. xs ++ rest) last ∙ append_assoc fewer (x ∷ []) rest

-- all is made, in the order of the list
pub made_all : {A B : Type 0} (f : A → B) (all left rest : List A) (made final : List B) → all ≡ left ++ rest → left ≡ [] → made ≡ reverse (map f rest) → final ≡ reverse made → final ≡ map f all
made_all f all left rest made final is none so end =
    end ∙ ap reverse so ∙ reverse-reverse (map f rest) ∙ ap (map f) (sym (is ∙ ap (λ xs. xs ++ rest) none))
