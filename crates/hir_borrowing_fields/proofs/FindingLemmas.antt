-- Leaves keep their paths while places are added.
use Rattle.std.proofs.Common.{◌≡◌, ◌<◌, ℕ, List, [], ◌∷◌, ◌++◌, length, get_or, refl, sym, ap, ◌∙◌, append_assoc, arith}
use Rattle.std.proofs.lemmas.List.{get_or_append_left, get_or-map, length-map}
use Rattle.std.proofs.lemmas.List.Elements.{All-head, All-tail}
use Rattle.hir_skeleton.specs.NamedLeaves.{NamedLeaf}
use Rattle.hir_borrowing_fields.specs.declared.found.FoundLeaf.{FoundLeaf}
use Rattle.hir_borrowing_fields.specs.inside.Findings.{ArePlaced, Extends, Findings, FindsMore, leaf_behind, leaf_placed, leaves_placed}
use Rattle.hir_borrowing_fields.specs.inside.Places.{Step}

pub leaves_kept : (places more : List (List Step)) (leaves : List FoundLeaf) → ArePlaced places leaves → leaves_placed (places ++ more) leaves ≡ leaves_placed places leaves
leaves_kept places more [] all = refl
leaves_kept places more (leaf ∷ leaves) all =
    ap (λ steps. leaf_behind steps leaf.carried ∷ leaves_placed (places ++ more) leaves)
    (get_or_append_left places more [] leaf.place (All-head (λ l. l.place < length places) leaf leaves all))
    ∙ ap (λ rest. leaf_placed places leaf ∷ rest) (leaves_kept places more leaves (All-tail (λ l. l.place < length places) leaf leaves all))

pub steps_stay : (old new : List (List Step)) (place : ℕ) → Extends old new → place < length old → get_or new place [] ≡ get_or old place []
steps_stay old new place (more, is) within = ap (λ ways. get_or ways place []) is ∙ get_or_append_left old more [] place within

pub extends_on : (old mid new : List (List Step)) → Extends old mid → Extends mid new → Extends old new
extends_on old mid new (first, is) (second, so) = (first ++ second, so ∙ ap (λ places. places ++ second) is ∙ append_assoc old first second)

pub finds_on : (old mid new : Findings) (xs ys : List NamedLeaf) → FindsMore old mid xs → FindsMore mid new ys → FindsMore old new (xs ++ ys)
finds_on old mid new xs ys first second = record {
  leaves = second.leaves ∙ ap (λ leaves. leaves ++ ys) first.leaves ∙ append_assoc old.leaves xs ys;
  places = extends_on old.places mid.places new.places first.places second.places;
}

-- a leaf that is read has the path of its place
pub leaf_read : (places : List (List Step)) (leaves : List FoundLeaf) (i : ℕ) (leaf : FoundLeaf) (d : NamedLeaf) → i < length leaves → leaf ≡ get_or leaves i leaf → get_or (leaves_placed places leaves) i d ≡ leaf_placed places leaf
leaf_read places leaves i leaf d within is = get_or-map (leaf_placed places) leaves i leaf d within ∙ ap (leaf_placed places) (sym is)

pub leaf_within : (places : List (List Step)) (leaves : List FoundLeaf) (found : Findings) (i : ℕ) → record { places = places; leaves = leaves_placed places leaves } ≡ found → i < length found.leaves → i < length leaves
leaf_within places leaves found i is within =
    let long = length-map leaves (leaf_placed places) in
    let same = ap (λ (f : Findings). length f.leaves) is in
    omega (arith, long, same, within)
