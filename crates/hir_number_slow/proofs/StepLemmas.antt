-- Loops over a list that is seen by a function.
use Rattle.std.proofs.Common.{◌≡◌, ℕ, ◌+◌, ◌<◌, List, [], ◌∷◌, ◌++◌, length, map, take, get_or, Result, Ok, Err, refl, sym, ap, ◌∙◌}
use Rattle.std.proofs.lemmas.List.{append-nil, map-append, take_more}
use Rattle.bridge_ast.specs.Each.{each}
use Rattle.bridge_ast.proofs.EachLemmas.{each-push}

-- one element more
pub map_more : {A B : Type 0} (seen : A → B) (xs : List A) (i : ℕ) (x : A) → i < length xs → x ≡ get_or xs i x
    → map seen (take (i + 1) xs) ≡ map seen (take i xs) ++ seen x ∷ []
map_more seen xs i x within is =
    ap (map seen) (take_more xs i x within ∙ ap (λ y. take i xs ++ y ∷ []) (sym is)) ∙ map-append seen (take i xs) (x ∷ [])

-- what it gives by those before it
each_seen : {A B Y : Type 0} (seen : A → B) (f : List B → B → List Y) (xs : List A) (i : ℕ) (x : A) → i < length xs → x ≡ get_or xs i x
    → each f (map seen (take (i + 1) xs)) ≡ each f (map seen (take i xs)) ++ f (map seen (take i xs)) (seen x)
each_seen seen f xs i x within is = ap (each f) (map_more seen xs i x within is) ∙ each-push f (map seen (take i xs)) (seen x)

-- a loop that has made what the elements before x give, and then what x gives
pub each_on : {A B Y : Type 0} (seen : A → B) (f : List B → B → List Y) (xs : List A) (i : ℕ) (x : A) → i < length xs → x ≡ get_or xs i x → (made so_far gave : List Y)
    → made ≡ so_far ++ gave → gave ≡ f (map seen (take i xs)) (seen x) → so_far ≡ each f (map seen (take i xs)) → made ≡ each f (map seen (take (i + 1) xs))
each_on seen f xs i x within is made so_far gave pushed here before =
    pushed ∙ ap (λ ys. so_far ++ ys) here ∙ ap (λ ys. ys ++ f (map seen (take i xs)) (seen x)) before ∙ sym (each_seen seen f xs i x within is)

-- these, and then those of a result, or its fault
abbrev pub after : {A E : Type 0} → List A → Result (List A) E → Result (List A) E
after xs (Ok ys) = Ok (xs ++ ys)
after xs (Err e) = Err e

pub after_none : {A E : Type 0} (r : Result (List A) E) → after [] r ≡ r
after_none (Ok ys) = refl
after_none (Err e) = refl

pub after_all : {A E : Type 0} (xs : List A) → after {E = E} xs (Ok []) ≡ Ok xs
after_all xs = ap Ok (append-nil xs)
