-- What a search that has seen all gives.
use Rattle.std.proofs.Common.{◌≡◌, ◌+◌, ℕ, ◌<◌, ◌≤◌, inl, inr, List, [], length, get_or, map, sym, ◌∙◌, ap, subst, arith, sum}
use Rattle.std.proofs.Math.ListN.{get_or-map}
use Rattle.std.proofs.lemmas.List.{length-map, get_or_past, get_or_default, length_push}
use Rattle.std.proofs.lemmas.Bool.{cases_lt, cases_eq}
use Rattle.definition_graph.specs.declared.search.Mark.{Mark}
use Rattle.definition_graph.specs.declared.search.Mark.TheVariants.{Unseen, Open, Done}
use Rattle.definition_graph.specs.declared.search.Search.{Search}
use Rattle.definition_graph.specs.Reaching.{IsGraph, successors}
use Rattle.definition_graph.specs.inside.SearchState.{DoneBy}
use Rattle.definition_graph.specs.inside.SearchSteps.{Holds, SearchEnds, OpensNode, search_mark, component_of_mark, potential}
use Rattle.definition_graph.specs.inside.Components.{AreComponents}
use Rattle.definition_graph.proofs.Emitting.{mark_cases}
use Rattle.definition_graph.proofs.Moving.{opens_holds, opens_marks}

-- with no work the path is empty
pub path_empty : (g : List (List ℕ)) (s : Search) → Holds g s → length s.work.items ≡ 0 → (i : ℕ) → i < length s.path.items → ⊥
path_empty g s h idle i on =
    let b = h.searching.first (omega arith) in
    omega (arith, (h.searching.bounds_work 0 b.0).1, idle)

-- a new root goes onto the path
pub root_holds :
    (g : List (List ℕ)) (s t : Search) (root : ℕ) → Holds g s → length s.work.items ≡ 0 → OpensNode s root t → root < length g
    → search_mark s root ≡ Unseen → Holds g t
root_holds g s t root h idle o within unseen =
    opens_holds g s t root h o within unseen (λ i on. absurd (path_empty g s h idle i on))

done_at : (g : List (List ℕ)) (s : Search) → SearchEnds g s → (v : ℕ) → v < length g → (c : ℕ) × (search_mark s v ≡ Done c)
done_at g s ends v within =
    elim (mark_cases (search_mark s v)) [
      | inl e ↦ absurd (ends.all v within e)
      | inr (inl (i, e)) ↦ absurd (path_empty g s ends.holds ends.idle i (ends.holds.searching.opened v i e).0)
      | inr (inr h) ↦ h
    ]

number_below : (c : ℕ) (m : Mark) → DoneBy c m → component_of_mark m ≤ c
number_below c Unseen h = absurd h
number_below c (Open i) h = absurd h
number_below c (Done d) h = h

-- the marks are components
pub ends_components :
    (g : List (List ℕ)) (s : Search) (number : List ℕ) → IsGraph g → SearchEnds g s → number ≡ map component_of_mark s.marks.items
    → AreComponents g number s.order.items
ends_components g s number sound ends e =
    let is = ends.holds.searching in
    let at : (v : ℕ) → get_or number v 0 ≡ component_of_mark (search_mark s v) =
    λ v. ap (λ xs. get_or xs v 0) e ∙ get_or-map component_of_mark s.marks.items v Unseen in
    let now : (v c : ℕ) → search_mark s v ≡ Done c → get_or number v 0 ≡ c = λ v c d. at v ∙ ap component_of_mark d in
    let below : (c v : ℕ) → DoneBy c (search_mark s v) → get_or number v 0 ≤ c =
    λ c v h. omega (arith, at v, number_below c (search_mark s v) h) in
    let in_graph : (v c : ℕ) → search_mark s v ≡ Done c → v < length g =
    λ v c d.
    elim (cases_lt v (length g)) [
      | inl lt ↦ lt
      | inr ge ↦
          let past : search_mark s v ≡ Unseen = get_or_past s.marks.items v Unseen (omega (arith, ends.holds.marks_each)) in cc
    ] in
    record {
      sound = sound;
      once = is.once;
      each = ap length e ∙ length-map s.marks.items component_of_mark ∙ ends.holds.marks_each;
      falls = λ a b edge.
          elim (cases_lt a (length g)) [
            | inl lt ↦
                let d = done_at g s ends a lt in
                let same : get_or (successors g a) edge.0 0 ≡ b = get_or_default (successors g a) edge.0 0 b edge.1 ∙ edge.2 in
                let h = subst (λ x. DoneBy d.0 (search_mark s x)) same (is.closed a d.0 edge.0 d.1 edge.1) in
                omega (arith, below d.0 b h, now a d.0 d.1)
            | inr ge ↦ absurd (omega (arith, edge.1, ap length (get_or_past g a [] ge)))
          ];
      both_ways = λ a b al bl same.
          let d = done_at g s ends a al in
          let d' = done_at g s ends b bl in
          let eq : d'.0 ≡ d.0 = sym (now b d'.0 d'.1) ∙ sym same ∙ now a d.0 d.1 in
          is.both_ways a b d.0 d.1 (subst (λ c. search_mark s b ≡ Done c) eq d'.1);
      listed = λ a al. let d = done_at g s ends a al in is.listed a d.0 d.1;
      within = λ k h. let d = is.all_done k h in in_graph _ d.0 d.1;
      ordered = λ j k jk h.
          let d = is.all_done k h in
          omega (arith, below d.0 _ (is.ordered j k d.0 jk h d.1), now _ d.0 d.1);
    }

-- what a new root costs
pub root_energy : (s t : Search) (root : ℕ) → OpensNode s root t → potential t ≡ potential s + 3
root_energy s t root o =
    omega (
      arith,
      ap sum o.left,
      ap length o.work,
      ap length o.bounds,
      ap length o.path,
      length_push s.work.items (length s.path.items),
      length_push s.bounds.items (length s.path.items),
      length_push s.path.items root,
    )

-- after a root was seen to, none up to it is unseen
pub root_seen :
    (g : List (List ℕ)) (s t u : Search) (root : ℕ) → Holds g s → OpensNode s root t → root < length g
    → ((v : ℕ) → search_mark u v ≡ Unseen → search_mark t v ≡ Unseen) → ((v : ℕ) → v < root → search_mark s v ≡ Unseen → ⊥) → (v : ℕ)
    → v < root + 1 → search_mark u v ≡ Unseen → ⊥
root_seen g s t u root h o within seen all v below unseen =
    let marks = opens_marks g s t root h o within in
    elim (cases_eq v root) [
      | inl same ↦ let e : search_mark t root ≡ Unseen = ap (search_mark t) (sym same) ∙ seen v unseen in let e' = marks.0 in cc
      | inr ne ↦ all v (omega arith) (sym (marks.1 v ne) ∙ seen v unseen)
    ]

-- a root that was seen before
pub root_before :
    (s : Search) (root : ℕ) (mark : Mark) → mark ≡ search_mark s root → (mark ≡ Unseen → ⊥)
    → ((v : ℕ) → v < root → search_mark s v ≡ Unseen → ⊥) → (v : ℕ) → v < root + 1 → search_mark s v ≡ Unseen → ⊥
root_before s root mark is was all v below unseen =
    elim (cases_eq v root) [
      | inl same ↦ was (is ∙ ap (search_mark s) (sym same) ∙ unseen)
      | inr ne ↦ all v (omega arith) unseen
    ]
