-- Calls one after another.
use Rattle.std.proofs.Common.{List, [], ◌∷◌, ◌++◌, subst, sym}
use Rattle.std.specs.List.{FoldsTo}

-- calls at two lists in a row are calls at both as one
pub folds_on : {P A : Type 0} (R : P → A → P → Type 0) (p q r : P) (xs ys : List A) → FoldsTo R p xs q → FoldsTo R q ys r → FoldsTo R p (xs ++ ys) r
folds_on R p q r [] ys first rest = subst (λ s. FoldsTo R s ys r) (sym first) rest
folds_on R p q r (x ∷ xs) ys first rest = (first.0, first.1, folds_on R first.0 q r xs ys first.2 rest)
