-- A list that grows by what each element gives.
use Rattle.std.proofs.Common.{◌≡◌, ◌<◌, ◌+◌, ℕ, List, [], ◌∷◌, ◌++◌, length, get_or, take, sym, ap, ◌∙◌}
use Rattle.std.specs.List.{flat_map}
use Rattle.std.proofs.lemmas.List.{flat_map_more, take_more}

-- what the next element gives comes behind
pub next_listed : {X A : Type 0} (f : X → List A) (xs : List X) (i : ℕ) (x : X) → i < length xs → x ≡ get_or xs i x → flat_map f (take i xs) ++ f x ≡ flat_map f (take (i + 1) xs)
next_listed f xs i x within is =
    flat_map_more f [] (take i xs) x
    ∙ ap (λ y. flat_map f (take i xs ++ y ∷ [])) is
    ∙ ap (λ ys. flat_map f ys) (sym (take_more xs i x within))
