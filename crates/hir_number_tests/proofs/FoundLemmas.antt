-- What holds of what a function gives of each element holds of each by the function.
use Rattle.std.proofs.Common.{List, [], ◌∷◌, map}
use Rattle.std.specs.List.{All}
use Rattle.std.proofs.lemmas.List.Elements.{All-nil, All-cons, All-head, All-tail}

pub all_before_map : {X Y : Type 0} (P : X → Type 0) (f : Y → X) (ys : List Y) → All P (map f ys) → All (λ y. P (f y)) ys
all_before_map P f [] all = All-nil (λ y. P (f y))
all_before_map P f (y ∷ ys) all =
    All-cons (λ y. P (f y)) y ys (All-head P (f y) (map f ys) all) (all_before_map P f ys (All-tail P (f y) (map f ys) all))
