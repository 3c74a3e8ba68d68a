-- Lists printed piece by piece.
use Rattle.std.proofs.Common.{◌≡◌, ◌+◌, ◌<◌, ◌++◌, ◌∷◌, ◌∙◌, [], ◌≤◌, ℕ, zero, suc, List, length, take, get_or, sym, ap, append_assoc, arith}
use Rattle.std.specs.List.{join_by, flat_map}
use Rattle.std.proofs.lemmas.List.{take_more, flat_map_more, append-nil, take_all}
use Rattle.bridge_outside.specs.Outside.{SinkState}
use Rattle.bridge_outside.specs.Printing.{Printing, Prints, separator_at}
use Rattle.bridge_outside.proofs.PrintingLaws.{◌⨟◌, prints_same}

-- one more piece at the end of a joined list
join_by-snoc : {X : Type 0} (f : X → List ℕ) (separator : List ℕ) (y : X) (ys : List X) (x : X)
    → join_by f separator (y ∷ ys ++ x ∷ []) ≡ join_by f separator (y ∷ ys) ++ (separator ++ f x)
join_by-snoc f separator y ys x =
    ap (λ zs. f y ++ zs) (sym (flat_map_more (λ z. separator ++ f z) [] ys x)) ∙ sym (append_assoc (f y) (flat_map (λ z. separator ++ f z) ys) (separator ++ f x))

-- the joined list of the first pieces and the one at place i
pub join_by-more : {X : Type 0} (f : X → List ℕ) (separator : List ℕ) (xs : List X) (i : ℕ) (x : X) → i < length xs → x ≡ get_or xs i x
    → join_by f separator (take (i + 1) xs) ≡ join_by f separator (take i xs) ++ (separator_at separator i ++ f x)
join_by-more f separator [] i x within here = absurd (omega arith)
join_by-more f separator (y ∷ ys) zero x within here = append-nil (f y) ∙ ap f (sym here)
join_by-more f separator (y ∷ ys) (suc i) x within here =
    ap (join_by f separator) (take_more (y ∷ ys) (suc i) x within) ∙ ap (λ z. join_by f separator (y ∷ take i ys ++ z ∷ [])) (sym here) ∙ join_by-snoc f separator y (take i ys) x

-- one more piece is printed
pub prints_more : {X : Type 0} {a b c : SinkState} {out_a out_b out_c : Printing} (f : X → List ℕ) (separator : List ℕ) (xs : List X) (i : ℕ) (x : X)
    → Prints a out_a b out_b (join_by f separator (take i xs)) → Prints b out_b c out_c (separator_at separator i ++ f x)
    → i < length xs → x ≡ get_or xs i x → Prints a out_a c out_c (join_by f separator (take (i + 1) xs))
prints_more f separator xs i x before now within here = prints_same (sym (join_by-more f separator xs i x within here)) (before ⨟ now)

-- all pieces are printed
pub prints_all : {X : Type 0} {a b : SinkState} {out_a out_b : Printing} (f : X → List ℕ) (separator : List ℕ) (xs : List X) (i : ℕ)
    → Prints a out_a b out_b (join_by f separator (take i xs)) → length xs ≤ i → Prints a out_a b out_b (join_by f separator xs)
prints_all f separator xs i printed all = prints_same (ap (join_by f separator) (take_all i xs all)) printed
