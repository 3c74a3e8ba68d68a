-- Calls one after another.
use Rattle.std.proofs.Common.{◌≡◌, ◌<◌, ◌+◌, ℕ, List, [], ◌∷◌, ◌++◌, length, map, take, get_or, ap, subst, sym, ◌∙◌}
use Rattle.std.specs.List.{FoldsTo}
use Rattle.std.proofs.lemmas.Fn.{FoldsTo-push}
use Rattle.std.proofs.lemmas.List.{flat_map_more, map-append, take_more}
use Rattle.hir_skeleton.specs.NamedLeaves.{NamedLeaf}
use Rattle.hir_borrowing_fields.specs.NamedLeaves.{leaf_at, lifetimes_with_leaves}
use Rattle.hir_life.specs.declared.maybe_static.MaybeStatic.{MaybeStatic}

-- calls at two lists in a row are calls at both as one
folds_on : {P A : Type 0} (R : P → A → P → Type 0) (p q r : P) (xs ys : List A) → FoldsTo R p xs q → FoldsTo R q ys r → FoldsTo R p (xs ++ ys) r
folds_on R p q r [] ys first rest = subst (λ s. FoldsTo R s ys r) (sym first) rest
folds_on R p q r (x ∷ xs) ys first rest = (first.0, first.1, folds_on R first.0 q r xs ys first.2 rest)

-- one call more
pub called_next : {F X Y : Type 0} (R : F → Y → F → Type 0) (h : X → Y) (xs : List X) (i : ℕ) (x : X) (first last next : F) → i < length xs → x ≡ get_or xs i x → FoldsTo R first (map h (take i xs)) last → R last (h x) next
    → FoldsTo R first (map h (take (i + 1) xs)) next
called_next R h xs i x first last next within is before call =
    subst (λ ys. FoldsTo R first ys next)
    (sym (ap (map h) (take_more xs i x within) ∙ map-append h (take i xs) (get_or xs i x ∷ []) ∙ ap (λ y. map h (take i xs) ++ h y ∷ []) (sym is)))
    (FoldsTo-push R first (map h (take i xs)) last (h x) next before call)

-- the calls at one leaf more
pub visited_next : {F : Type 0} (R : F → MaybeStatic ℕ × NamedLeaf → F → Type 0) (leaves : List NamedLeaf) (i : ℕ) (carried : List (MaybeStatic ℕ)) (first last next : F) → i < length leaves → carried ≡ (leaf_at leaves i).carried
    → FoldsTo R first (lifetimes_with_leaves (take i leaves)) last → FoldsTo R last (map (λ l. (l, leaf_at leaves i)) carried) next → FoldsTo R first (lifetimes_with_leaves (take (i + 1) leaves)) next
visited_next R leaves i carried first last next within is before here =
    subst (λ ys. FoldsTo R first ys next)
    (ap (λ ls. lifetimes_with_leaves (take i leaves) ++ map (λ l. (l, leaf_at leaves i)) ls) is
    ∙ flat_map_more (λ leaf. map (λ l. (l, leaf)) leaf.carried) [] (take i leaves) (leaf_at leaves i)
    ∙ ap lifetimes_with_leaves (sym (take_more leaves i (record { path = []; names = []; carried = [] }) within)))
    (folds_on R first last next (lifetimes_with_leaves (take i leaves)) (map (λ l. (l, leaf_at leaves i)) carried) before here)
