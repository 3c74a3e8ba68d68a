-- What the search's functions keep.
use Rattle.std.proofs.Common.{◌≡◌, ℕ, ◌+◌, ◌-◌, ◌<◌, ◌≤◌, inl, inr, List, [], ◌∷◌, length, get_or, set, take, drop, refl, sym, ◌∙◌, ap, subst, arith, sum, get_or-set_same, get_or-set_other, length-set, length-append}
use Rattle.std.specs.Global.{Vec}
use Rattle.std.proofs.lemmas.List.Sums.{sum_by-set}
use Rattle.std.proofs.lemmas.List.{get_or-append-add, get_or-drop, length-drop}
use Rattle.std.proofs.Math.ListN.{get_or-append}
use Rattle.std.proofs.lemmas.Bool.{cases_lt, cases_eq}
use Rattle.definition_graph.specs.declared.search.Mark.{Mark}
use Rattle.definition_graph.specs.declared.search.Mark.TheVariants.{Unseen, Open, Done}
use Rattle.definition_graph.specs.declared.search.Search.{Search}
use Rattle.definition_graph.specs.Reaching.{Leads, Edge, successors}
use Rattle.definition_graph.specs.inside.SearchState.{SearchState, Settled, IsSearching, search_state}
use Rattle.definition_graph.specs.inside.SearchSteps.{Holds, IsTop, OpensNode, Joins, Emits, VisitsEdge, Proceeds, search_mark}
use Rattle.definition_graph.proofs.Keeping.{cut, pushed, all_lead, bounds_below, opens_keeps, joins_keeps, joins_settles, follows_keeps, closes_keeps}
use Rattle.definition_graph.proofs.Emitting.{emits_both}

abbrev from_lists : List Mark → List ℕ → List ℕ → List ℕ → List ℕ → List ℕ → SearchState
from_lists marks left path bounds work order =
    record {
      mark = λ v. get_or marks v Unseen;
      left = λ v. get_or left v 0;
      path = path;
      bounds = bounds;
      work = work;
      order = order;
    }

pub opens_holds :
    (g : List (List ℕ)) (s t : Search) (node : ℕ) → Holds g s → OpensNode s node t → node < length g
    → search_mark s node ≡ Unseen → ((i : ℕ) → i < length s.path.items → Leads g (get_or s.path.items i 0) node) → Holds g t
opens_holds g s t node h o within unseen lead =
    record {
      marks_each = ap length o.marks ∙ length-set s.marks.items node _ ∙ h.marks_each;
      left_each = ap length o.left ∙ h.left_each;
      left_within = λ v. subst (λ xs. get_or xs v 0 ≤ length (successors g v)) (sym o.left) (h.left_within v);
      searching =
          subst (λ xs. IsSearching g (from_lists t.marks.items xs t.path.items t.bounds.items t.work.items t.order.items)) (sym o.left)
          (subst (λ xs. IsSearching g (from_lists t.marks.items s.left.items t.path.items t.bounds.items t.work.items xs)) (sym o.order)
          (opens_keeps g (search_state s) h.searching node (search_mark t) t.path.items t.bounds.items t.work.items unseen within lead
          (ap (λ m. get_or m node Unseen) o.marks ∙ get_or-set_same s.marks.items node _ Unseen (omega (arith, h.marks_each)))
          (λ v ne. ap (λ m. get_or m v Unseen) o.marks ∙ get_or-set_other s.marks.items node v _ Unseen ne)
          (pushed _ _ _ o.path) (pushed _ _ _ o.bounds) (pushed _ _ _ o.work)));
    }

-- nothing else was seen anew, and what is on the path stays there
pub opens_marks :
    (g : List (List ℕ)) (s t : Search) (node : ℕ) → Holds g s → OpensNode s node t → node < length g
    → (search_mark t node ≡ Open (length s.path.items)) × ((v : ℕ) → (v ≡ node → ⊥) → search_mark t v ≡ search_mark s v)
opens_marks g s t node h o within = (
  ap (λ m. get_or m node Unseen) o.marks ∙ get_or-set_same s.marks.items node _ Unseen (omega (arith, h.marks_each)),
  λ v ne. ap (λ m. get_or m v Unseen) o.marks ∙ get_or-set_other s.marks.items node v _ Unseen ne,
)

pub top_in_path : (g : List (List ℕ)) (s : Search) (at : ℕ) → Holds g s → IsTop s.work.items at → at < length s.path.items
top_in_path g s at h top = omega (arith, h.searching.in_path (length s.work.items - 1) (omega (arith, top.0)), top.1)

-- a node that was not seen goes onto the path
pub visits_unseen :
    (g : List (List ℕ)) (s t : Search) (at target : ℕ) → Holds g s → IsTop s.work.items at → target < length g
    → Edge g (get_or s.path.items at 0) target → search_mark s target ≡ Unseen → OpensNode s target t → VisitsEdge g s at target t
visits_unseen g s t at target h top within edge unseen o =
    let marks = opens_marks g s t target h o within in
    let bounds = pushed s.bounds.items t.bounds.items (length s.path.items) o.bounds in
    record {
      holds = opens_holds g s t target h o within unseen (all_lead g (search_state s) h.searching at target top.0 top.1 edge);
      left = o.left;
      settled =
          subst (λ m. Settled t.bounds.items at m) (sym marks.0)
          (λ k hk le. omega (arith, le, top_in_path g s at h top));
      still = λ v i e.
          marks.1 v (λ same. let e' : search_mark s target ≡ Open i = ap (search_mark s) (sym same) ∙ e in cc) ∙ e;
      seen = λ v e.
          elim (cases_eq v target) [
            | inl same ↦ ap (search_mark s) same ∙ unseen
            | inr ne ↦ sym (marks.1 v ne) ∙ e
          ];
      more = omega (arith, ap length o.work, length-append s.work.items (length s.path.items ∷ []));
    }

-- a node on the path joins the groups above it
pub visits_open :
    (g : List (List ℕ)) (s t : Search) (at target place : ℕ) → Holds g s → IsTop s.work.items at
    → Edge g (get_or s.path.items at 0) target → search_mark s target ≡ Open place → Joins s.bounds.items place t.bounds.items
    → t.marks.items ≡ s.marks.items → t.left.items ≡ s.left.items → t.path.items ≡ s.path.items
    → t.work.items ≡ s.work.items → t.order.items ≡ s.order.items → VisitsEdge g s at target t
visits_open g s t at target place h top edge standing j marks left path work order =
    let on = h.searching.opened target place standing in
    let short = cut s.bounds.items t.bounds.items j.keep j.short j.enough in
    let lead : (i : ℕ) → i < length s.path.items → Leads g (get_or s.path.items i 0) (get_or s.path.items place 0) =
    λ i hi. subst (λ x. Leads g (get_or s.path.items i 0) x) (sym on.1) (all_lead g (search_state s) h.searching at target top.0 top.1 edge i hi) in
    let same : (v : ℕ) → search_mark t v ≡ search_mark s v = λ v. ap (λ m. get_or m v Unseen) marks in
    record {
      holds =
          record {
            marks_each = ap length marks ∙ h.marks_each;
            left_each = ap length left ∙ h.left_each;
            left_within = λ v. subst (λ xs. get_or xs v 0 ≤ length (successors g v)) (sym left) (h.left_within v);
            searching =
                subst (λ xs. IsSearching g (from_lists xs t.left.items t.path.items t.bounds.items t.work.items t.order.items)) (sym marks)
                (subst (λ xs. IsSearching g (from_lists s.marks.items xs t.path.items t.bounds.items t.work.items t.order.items)) (sym left)
                (subst (λ xs. IsSearching g (from_lists s.marks.items s.left.items xs t.bounds.items t.work.items t.order.items)) (sym path)
                (subst (λ xs. IsSearching g (from_lists s.marks.items s.left.items s.path.items t.bounds.items xs t.order.items)) (sym work)
                (subst (λ xs. IsSearching g (from_lists s.marks.items s.left.items s.path.items t.bounds.items s.work.items xs)) (sym order)
                (joins_keeps g (search_state s) h.searching place j.keep t.bounds.items on.0 j.enough lead j.low j.high short)))));
          };
      left = left;
      settled =
          subst (λ m. Settled t.bounds.items at m) (sym (same target ∙ standing))
          (joins_settles g (search_state s) h.searching place j.keep t.bounds.items on.0 j.enough lead j.low j.high short at);
      still = λ v i e. same v ∙ e;
      seen = λ v e. sym (same v) ∙ e;
      more = omega (arith, ap length work);
    }

-- a node that is done changes nothing
pub visits_done :
    (g : List (List ℕ)) (s : Search) (at target c : ℕ) → Holds g s → search_mark s target ≡ Done c → VisitsEdge g s at target s
visits_done g s at target c h done =
    record {
      holds = h;
      left = refl;
      settled = subst (λ m. Settled s.bounds.items at m) (sym done) tt;
      still = λ v i e. e;
      seen = λ v e. e;
      more = omega arith;
    }

-- an edge was followed
pub explores :
    (g : List (List ℕ)) (s t : Search) (at node edge target : ℕ) (left' : Vec ℕ) → Holds g s → VisitsEdge g s at target t
    → node < length g → search_mark s node ≡ Open at → get_or s.left.items node 0 ≡ edge + 1
    → target ≡ get_or (successors g node) edge 0 → left'.items ≡ set t.left.items node edge
    → Proceeds g s (record t { left = left' })
explores g s t at node edge target left' h visits within on some is same =
    let place : node < length t.left.items = omega (arith, visits.holds.left_each) in
    let old : get_or t.left.items node 0 ≡ edge + 1 = ap (λ xs. get_or xs node 0) visits.left ∙ some in
    let now : get_or left'.items node 0 ≡ edge = ap (λ xs. get_or xs node 0) same ∙ get_or-set_same t.left.items node edge 0 place in
    let others : (u : ℕ) → (u ≡ node → ⊥) → get_or left'.items u 0 ≡ get_or t.left.items u 0 =
    λ u ne. ap (λ xs. get_or xs u 0) same ∙ get_or-set_other t.left.items node u edge 0 ne in
    let total = sum_by-set (λ (x : ℕ). x) t.left.items node edge 0 place in
    record {
      holds =
          record {
            marks_each = visits.holds.marks_each;
            left_each = ap length same ∙ length-set t.left.items node edge ∙ visits.holds.left_each;
            left_within = λ v.
                elim (cases_eq v node) [
                  | inl e ↦
                      subst (λ x. get_or left'.items x 0 ≤ length (successors g x)) (sym e)
                      (omega (arith, now, old, visits.holds.left_within node))
                  | inr ne ↦ omega (arith, others v ne, visits.holds.left_within v)
                ];
            searching =
                follows_keeps g (search_state t) visits.holds.searching node at (λ v. get_or left'.items v 0) (visits.still node at on)
                (old ∙ omega (arith, now)) others
                (subst (λ n. Settled t.bounds.items at (search_mark t (get_or (successors g node) n 0))) (sym now)
                (subst (λ x. Settled t.bounds.items at (search_mark t x)) is visits.settled));
          };
      seen = visits.seen;
      less = omega (arith, total, old, visits.more, ap sum same, ap sum visits.left);
    }

-- the top of the work is left, and begins no group
pub closes :
    (g : List (List ℕ)) (s : Search) (at : ℕ) (work' : Vec ℕ) → Holds g s → IsTop s.work.items at
    → get_or s.left.items (get_or s.path.items at 0) 0 ≡ 0 → work'.items ≡ take (length s.work.items - 1) s.work.items
    → (0 < length s.bounds.items → get_or s.bounds.items (length s.bounds.items - 1) 0 ≡ at → ⊥)
    → Proceeds g s (record s { work = work' })
closes g s at work' h top none same apart =
    let short = cut s.work.items work'.items (length s.work.items - 1) same (omega arith) in
    record {
      holds =
          record {
            marks_each = h.marks_each;
            left_each = h.left_each;
            left_within = h.left_within;
            searching =
                closes_keeps g (search_state s) h.searching work'.items at top.0 short top.1 none
                (λ k hk e.
                elim (cases_lt k (length s.bounds.items - 1)) [
                  | inl lt ↦
                      omega (
                        arith,
                        h.searching.bounds_rise k (length s.bounds.items - 1) lt (omega arith),
                        bounds_below g (search_state s) h.searching at top.0 top.1 (length s.bounds.items - 1) (omega arith),
                        e,
                      )
                  | inr ge ↦ apart (omega arith) (ap (λ n. get_or s.bounds.items n 0) (omega arith) ∙ e)
                ]);
          };
      seen = λ v e. e;
      less = omega (arith, short.less, top.0);
    }

-- and it begins one
pub emits :
    (g : List (List ℕ)) (s t : Search) (at : ℕ) (work' bounds' : Vec ℕ) → Holds g s → IsTop s.work.items at
    → get_or s.left.items (get_or s.path.items at 0) 0 ≡ 0 → work'.items ≡ take (length s.work.items - 1) s.work.items
    → 0 < length s.bounds.items → at ≡ get_or s.bounds.items (length s.bounds.items - 1) 0
    → bounds'.items ≡ take (length s.bounds.items - 1) s.bounds.items
    → Emits (record s { work = work'; bounds = bounds' }) at t → Proceeds g s t
emits g s t at work' bounds' h top none work group begins bounds e =
    let in_path = top_in_path g s at h top in
    let short = cut s.work.items t.work.items (length s.work.items - 1) (e.work ∙ work) (omega arith) in
    let both =
    emits_both g (search_state s) h.searching at (search_mark t) t.path.items t.bounds.items t.work.items t.order.items top.0 group
    top.1 begins none e.marks.done e.marks.others (cut s.path.items t.path.items at e.path (omega arith))
    (cut s.bounds.items t.bounds.items (length s.bounds.items - 1) (e.bounds ∙ bounds) (omega arith)) short
    (omega (arith, ap length e.order, length-append s.order.items (drop at s.path.items), length-drop at s.path.items))
    (λ k hk. ap (λ xs. get_or xs k 0) e.order ∙ get_or-append s.order.items (drop at s.path.items) 0 k hk)
    (λ k hk.
    ap (λ xs. get_or xs (length s.order.items + k) 0) e.order ∙ get_or-append-add s.order.items (drop at s.path.items) k 0
    ∙ get_or-drop at s.path.items k 0) in
    record {
      holds =
          record {
            marks_each = e.marks.each ∙ h.marks_each;
            left_each = ap length e.left ∙ h.left_each;
            left_within = λ v. subst (λ xs. get_or xs v 0 ≤ length (successors g v)) (sym e.left) (h.left_within v);
            searching =
                subst (λ xs. IsSearching g (from_lists t.marks.items xs t.path.items t.bounds.items t.work.items t.order.items)) (sym e.left) both.0;
          };
      seen = both.1;
      less = omega (arith, short.less, top.0, ap sum e.left);
    }
