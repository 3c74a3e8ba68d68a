-- Two lists that are gone through together, from their last elements to their first.
use Rattle.std.proofs.Common.{◌≡◌, List, [], ◌∷◌, ◌++◌, length, reverse, ap, sym, ◌∙◌, append_assoc, length-append, arith}
use Rattle.std.proofs.lemmas.Grind.{reverse_onto}
use Rattle.std.proofs.lemmas.List.{reverse-reverse}
use Rattle.hir_fields.specs.inside.Pairs.{zipped}

-- one more of what was made of the last elements
pub zipped_more : {A B C : Type 0} (f : A → B → C) (x : A) (y : B) (xs : List A) (ys : List B) (made : List C)
    → made ≡ reverse (zipped f xs ys) → made ++ f x y ∷ [] ≡ reverse (zipped f (x ∷ xs) (y ∷ ys))
zipped_more f x y xs ys made is = ap (λ zs. zs ++ f x y ∷ []) is ∙ sym (reverse_onto (zipped f xs ys) (f x y) [])

pub taken_last : {A : Type 0} (all left fewer : List A) (x : A) (rest : List A) → all ≡ left ++ rest → left ≡ fewer ++ x ∷ [] → all ≡ fewer ++ x ∷ rest
taken_last all left fewer x rest is last = is ∙ ap (λ xs. xs ++ rest) last ∙ append_assoc fewer (x ∷ []) rest

-- both lists are as long as before
pub one_fewer : {A B : Type 0} (xs fewer : List A) (ys less : List B) (x : A) (y : B) → length xs ≡ length ys → xs ≡ fewer ++ x ∷ [] → ys ≡ less ++ y ∷ []
    → length fewer ≡ length less
one_fewer xs fewer ys less x y same first second =
    omega (arith, ap length first, ap length second, length-append fewer (x ∷ []), length-append less (y ∷ []))

-- the second isn't empty where the first isn't
pub some_left : {A B : Type 0} (xs fewer : List A) (ys : List B) (x : A) → length xs ≡ length ys → xs ≡ fewer ++ x ∷ [] → ys ≡ [] → ⊥
some_left xs fewer ys x same first none = omega (arith, ap length first, length-append fewer (x ∷ []), ap length none)

none_long : {A : Type 0} (xs : List A) → 0 ≡ length xs → xs ≡ []
none_long [] h = λ i. []
none_long (x ∷ xs) h = absurd (omega arith)

-- all is made, in the order of the lists
pub zipped_all : {A B C : Type 0} (f : A → B → C) (firsts left rest : List A) (seconds others behind : List B) (made final : List C)
    → firsts ≡ left ++ rest → seconds ≡ others ++ behind → length left ≡ length others → left ≡ [] → made ≡ reverse (zipped f rest behind)
    → final ≡ reverse made → final ≡ zipped f firsts seconds
zipped_all f firsts left rest seconds others behind made final first second same none so end =
    let no_others : others ≡ [] = none_long others (sym (ap length none) ∙ same) in
    end ∙ ap reverse so ∙ reverse-reverse (zipped f rest behind)
    ∙ ap (λ xs. zipped f xs behind) (sym (first ∙ ap (λ xs. xs ++ rest) none))
    ∙ ap (zipped f firsts) (sym (second ∙ ap (λ ys. ys ++ behind) no_others))
