-- What the search keeps where a group is done.
use Rattle.std.proofs.Common.{◌≡◌, ℕ, ◌+◌, ◌-◌, ◌<◌, ◌≤◌, ◌⊎◌, inl, inr, List, length, get_or, refl, sym, ◌∙◌, ap, subst, arith}
use Rattle.std.proofs.lemmas.Bool.{cases_lt, cases_eq}
use Rattle.definition_graph.specs.declared.search.Mark.{Mark}
use Rattle.definition_graph.specs.declared.search.Mark.TheVariants.{Unseen, Open, Done}
use Rattle.definition_graph.specs.Reaching.{Leads, successors}
use Rattle.definition_graph.specs.inside.SearchState.{SearchState, Joined, Settled, DoneBy, Stands, IsSearching}
use Rattle.definition_graph.proofs.Keeping.{IsCut, bounds_below, rising_cut}

pub mark_cases : (m : Mark) → (m ≡ Unseen) ⊎ (((i : ℕ) × (m ≡ Open i)) ⊎ ((c : ℕ) × (m ≡ Done c)))
mark_cases Unseen = inl refl
mark_cases (Open i) = inr (inl (i, refl))
mark_cases (Done c) = inr (inr (c, refl))

done_later : (m : Mark) (c d : ℕ) → c ≤ d → DoneBy c m → DoneBy d m
done_later Unseen c d le h = h
done_later (Open i) c d le h = h
done_later (Done e) c d le h = omega (arith, le, h)

module _ (g : List (List ℕ)) (s : SearchState) (is : IsSearching g s) where
  -- the last group is done: its nodes go from the path to the order
  module _
      (start : ℕ) (mark' : ℕ → Mark) (path' bounds' work' order' : List ℕ) (some : 0 < length s.work)
      (group : 0 < length s.bounds) (top : start ≡ get_or s.work (length s.work - 1) 0)
      (begins : start ≡ get_or s.bounds (length s.bounds - 1) 0) (none : s.left (get_or s.path start 0) ≡ 0)
      (done : (i : ℕ) → start ≤ i → i < length s.path → mark' (get_or s.path i 0) ≡ Done (length s.order))
      (others : (v : ℕ) → ((i : ℕ) → start ≤ i → i < length s.path → get_or s.path i 0 ≡ v → ⊥) → mark' v ≡ s.mark v)
      (path : IsCut s.path start path') (bounds : IsCut s.bounds (length s.bounds - 1) bounds')
      (work : IsCut s.work (length s.work - 1) work')
      (listing : length order' ≡ length s.order + (length s.path - start))
      (listed_before : (k : ℕ) → k < length s.order → get_or order' k 0 ≡ get_or s.order k 0)
      (listed_now : (k : ℕ) → start + k < length s.path → get_or order' (length s.order + k) 0 ≡ get_or s.path (start + k) 0) where
    start_in_path : start < length s.path
    start_in_path = omega (arith, is.in_path (length s.work - 1) (omega arith), top)

    bounds_at_most : (k : ℕ) → k < length s.bounds → get_or s.bounds k 0 ≤ start
    bounds_at_most = bounds_below g s is start some top

    at_or_after : (v i : ℕ) → s.mark v ≡ Open i → start ≤ i → mark' v ≡ Done (length s.order)
    at_or_after v i e h =
        let on = is.opened v i e in
        subst (λ x. mark' x ≡ Done (length s.order)) on.1 (done i h on.0)

    same_place : (v i j : ℕ) → s.mark v ≡ Open i → j < length s.path → get_or s.path j 0 ≡ v → i ≡ j
    same_place v i j e h at =
        let there : s.mark v ≡ Open j = ap s.mark (sym at) ∙ is.on_path j h in cc

    before : (v i : ℕ) → s.mark v ≡ Open i → i < start → mark' v ≡ Open i
    before v i e h = others v (λ j le on at. omega (arith, same_place v i j e on at)) ∙ e

    still_done : (v c : ℕ) → s.mark v ≡ Done c → mark' v ≡ Done c
    still_done v c e = others v (λ j le on at. let h : s.mark v ≡ Open j = ap s.mark (sym at) ∙ is.on_path j on in cc) ∙ e

    still_unseen : (v : ℕ) → s.mark v ≡ Unseen → mark' v ≡ Unseen
    still_unseen v e = others v (λ j le on at. let h : s.mark v ≡ Open j = ap s.mark (sym at) ∙ is.on_path j on in cc) ∙ e

    was_unseen : (v : ℕ) → mark' v ≡ Unseen → s.mark v ≡ Unseen
    was_unseen v e =
        elim (mark_cases (s.mark v)) [
          | inl h ↦ h
          | inr (inl (i, h)) ↦
              elim (cases_lt i start) [
                | inl lt ↦ let h' : mark' v ≡ Open i = before v i h lt in cc
                | inr ge ↦ let h' : mark' v ≡ Done (length s.order) = at_or_after v i h ge in cc
              ]
          | inr (inr (c, h)) ↦ let h' : mark' v ≡ Done c = still_done v c h in cc
        ]

    was_open : (v i : ℕ) → mark' v ≡ Open i → (s.mark v ≡ Open i) × (i < start)
    was_open v i e =
        elim (mark_cases (s.mark v)) [
          | inl h ↦ let h' : mark' v ≡ Unseen = still_unseen v h in cc
          | inr (inl (j, h)) ↦
              elim (cases_lt j start) [
                | inl lt ↦
                    let h' : mark' v ≡ Open j = before v j h lt in
                    let same : j ≡ i = (cc) in
                    (subst (λ n. s.mark v ≡ Open n) same h, omega (arith, same))
                | inr ge ↦ let h' : mark' v ≡ Done (length s.order) = at_or_after v j h ge in cc
              ]
          | inr (inr (c, h)) ↦ let h' : mark' v ≡ Done c = still_done v c h in cc
        ]

    -- done before, or of the group
    was_done :
        (v c : ℕ) → mark' v ≡ Done c
        → (s.mark v ≡ Done c) ⊎ ((i : ℕ) × (start ≤ i) × (s.mark v ≡ Open i) × (c ≡ length s.order))
    was_done v c e =
        elim (mark_cases (s.mark v)) [
          | inl h ↦ let h' : mark' v ≡ Unseen = still_unseen v h in cc
          | inr (inl (j, h)) ↦
              elim (cases_lt j start) [
                | inl lt ↦ let h' : mark' v ≡ Open j = before v j h lt in cc
                | inr ge ↦
                    let h' : mark' v ≡ Done (length s.order) = at_or_after v j h ge in
                    inr (j, ge, h, (cc))
              ]
          | inr (inr (d, h)) ↦
              let h' : mark' v ≡ Done d = still_done v d h in
              let same : d ≡ c = (cc) in
              inl (subst (λ n. s.mark v ≡ Done n) same h)
        ]

    fewer : (i j : ℕ) → Joined s.bounds i j → Joined bounds' i j
    fewer i j joined k hk le =
        omega (arith, joined k (omega (arith, bounds.less)) (omega (arith, bounds.same k (omega (arith, bounds.less)))), bounds.same k (omega (arith, bounds.less)))

    was_joined : (i j : ℕ) → i < start → Joined bounds' i j → Joined s.bounds i j
    was_joined i j h joined k hk le =
        elim (cases_lt k (length s.bounds - 1)) [
          | inl lt ↦ omega (arith, joined k (omega (arith, bounds.less)) (omega (arith, bounds.same k lt)), bounds.same k lt)
          | inr ge ↦
              let e : k ≡ length s.bounds - 1 = omega (arith, hk) in
              absurd (omega (arith, ap (λ n. get_or s.bounds n 0) e, begins))
        ]

    settled_now : (i : ℕ) (v : ℕ) → Settled s.bounds i (s.mark v) → Settled bounds' i (mark' v)
    settled_now i v h =
        elim (mark_cases (s.mark v)) [
          | inl e ↦ absurd (subst (λ m. Settled s.bounds i m) e h)
          | inr (inl (j, e)) ↦
              elim (cases_lt j start) [
                | inl lt ↦
                    subst (λ m. Settled bounds' i m) (sym (before v j e lt)) (fewer i j (subst (λ m. Settled s.bounds i m) e h))
                | inr ge ↦ subst (λ m. Settled bounds' i m) (sym (at_or_after v j e ge)) tt
              ]
          | inr (inr (c, e)) ↦ subst (λ m. Settled bounds' i m) (sym (still_done v c e)) tt
        ]

    still_done_by : (c v : ℕ) → DoneBy c (s.mark v) → DoneBy c (mark' v)
    still_done_by c v h =
        elim (mark_cases (s.mark v)) [
          | inl e ↦ absurd (subst (λ m. DoneBy c m) e h)
          | inr (inl (j, e)) ↦ absurd (subst (λ m. DoneBy c m) e h)
          | inr (inr (d, e)) ↦ subst (λ m. DoneBy c m) (sym (still_done v d e)) (subst (λ m. DoneBy c m) e h)
        ]

    -- what an edge of the group leads to is done now
    group_closed : (i v : ℕ) → start ≤ i → Settled s.bounds i (s.mark v) → DoneBy (length s.order) (mark' v)
    group_closed i v h settled =
        elim (mark_cases (s.mark v)) [
          | inl e ↦ absurd (subst (λ m. Settled s.bounds i m) e settled)
          | inr (inl (j, e)) ↦
              let joined : Joined s.bounds i j = subst (λ m. Settled s.bounds i m) e settled in
              let at : start ≤ j = omega (arith, joined (length s.bounds - 1) (omega arith) (omega (arith, begins)), begins) in
              subst (λ m. DoneBy (length s.order) m) (sym (at_or_after v j e at)) (omega arith)
          | inr (inr (c, e)) ↦
              subst (λ m. DoneBy (length s.order) m) (sym (still_done v c e)) (omega (arith, is.below v c e))
        ]

    -- no node of the group has an edge left
    finished : (v i : ℕ) → s.mark v ≡ Open i → start ≤ i → s.left v ≡ 0
    finished v i e h =
        elim (cases_eq (s.left v) 0) [
          | inl none ↦ none
          | inr left ↦
              let at = is.unfinished v i e (omega arith) in
              elim (cases_lt at.0 (length s.work - 1)) [
                | inl lt ↦ absurd (omega (arith, is.rising at.0 (length s.work - 1) lt (omega arith), at.2, top))
                | inr ge ↦
                    let last : at.0 ≡ length s.work - 1 = omega (arith, at.1) in
                    let same : start ≡ i = top ∙ ap (λ n. get_or s.work n 0) (sym last) ∙ at.2 in
                    let here : get_or s.path start 0 ≡ v = ap (λ n. get_or s.path n 0) same ∙ (is.opened v i e).1 in
                    ap s.left (sym here) ∙ none
              ]
        ]

    still_stands : (x : ℕ) → (x ≡ start → ⊥) → Stands s.work x → Stands work' x
    still_stands x ne h =
        elim (cases_lt h.0 (length s.work - 1)) [
          | inl lt ↦ (h.0, omega (arith, work.less), work.same h.0 lt ∙ h.2)
          | inr ge ↦
              let last : h.0 ≡ length s.work - 1 = omega (arith, h.1) in
              absurd (ne (sym h.2 ∙ ap (λ n. get_or s.work n 0) last ∙ sym top))
        ]

    -- a place of the new order, in the old one or in the group
    order_cases :
        (k : ℕ) → k < length order'
        → ((k < length s.order) × (get_or order' k 0 ≡ get_or s.order k 0))
        ⊎ ((length s.order ≤ k) × (mark' (get_or order' k 0) ≡ Done (length s.order)))
    order_cases k h =
        elim (cases_lt k (length s.order)) [
          | inl lt ↦ inl (lt, listed_before k lt)
          | inr ge ↦
              let place : length s.order + (k - length s.order) ≡ k = omega arith in
              let at = listed_now (k - length s.order) (omega (arith, listing, start_in_path)) in
              inr (
                ge,
                ap mark' (ap (λ n. get_or order' n 0) (sym place) ∙ at)
                    ∙ done (start + (k - length s.order)) (omega arith) (omega (arith, listing, start_in_path)),
              )
        ]

    pub emits_keeps :
        IsSearching g (record s { mark = mark'; path = path'; bounds = bounds'; work = work'; order = order' })
    emits_keeps =
        record {
          on_path = λ i h.
              let lt : i < start = omega (arith, path.less) in
              ap mark' (path.same i lt) ∙ before _ i (is.on_path i (omega (arith, start_in_path))) lt;
          within = λ i h.
              let lt : i < start = omega (arith, path.less) in
              omega (arith, path.same i lt, is.within i (omega (arith, start_in_path)));
          opened = λ v i e.
              let was = was_open v i e in
              (omega (arith, path.less, was.1), path.same i was.1 ∙ (is.opened v i was.0).1);
          leads = λ i j hi hj joined.
              let il : i < start = omega (arith, path.less) in
              let jl : j < start = omega (arith, path.less) in
              subst (λ x. Leads g x (get_or path' j 0)) (sym (path.same i il))
              (subst (λ x. Leads g (get_or s.path i 0) x) (sym (path.same j jl))
              (is.leads i j (omega (arith, start_in_path)) (omega (arith, start_in_path)) (was_joined i j il joined)));
          settled = λ v i k e hk hd. let was = was_open v i e in settled_now i _ (is.settled v i k was.0 hk hd);
          closed = λ v c k e hk.
              elim (was_done v c e) [
                | inl old ↦ still_done_by c _ (is.closed v c k old hk)
                | inr (i, h, on, same) ↦
                    subst (λ n. DoneBy n (mark' (get_or (successors g v) k 0))) (sym same)
                    (group_closed i _ h (is.settled v i k on (omega (arith, finished v i on h)) hk))
              ];
          both_ways = λ v w c e f.
              elim (was_done v c e) [
                | inl old ↦
                    elim (was_done w c f) [
                      | inl old' ↦ is.both_ways v w c old old'
                      | inr (j, h', on', same') ↦ absurd (omega (arith, is.below v c old, same'))
                    ]
                | inr (i, h, on, same) ↦
                    elim (was_done w c f) [
                      | inl old' ↦ absurd (omega (arith, is.below w c old', same))
                      | inr (j, h', on', same') ↦
                          let a = is.opened v i on in
                          let b = is.opened w j on' in
                          subst (λ x. Leads g x w) a.1
                          (subst (λ x. Leads g (get_or s.path i 0) x) b.1
                          (is.leads i j a.0 b.0 (λ k hk le. omega (arith, bounds_at_most k hk))))
                    ]
              ];
          below = λ v c e.
              elim (was_done v c e) [
                | inl old ↦ omega (arith, is.below v c old, listing)
                | inr (i, h, on, same) ↦ omega (arith, listing, start_in_path, same)
              ];
          listed = λ v c e.
              elim (was_done v c e) [
                | inl old ↦
                    let at = is.listed v c old in
                    (at.0, omega (arith, at.1, listing), listed_before at.0 at.1 ∙ at.2)
                | inr (i, h, on, same) ↦
                    let at = is.opened v i on in
                    let place : start + (i - start) ≡ i = omega arith in (
                      length s.order + (i - start),
                      omega (arith, at.0, listing, h),
                      listed_now (i - start) (omega (arith, at.0, h)) ∙ ap (λ n. get_or s.path n 0) place ∙ at.1,
                    )
              ];
          all_done = λ k h.
              elim (order_cases k h) [
                | inl (lt, same) ↦
                    let d = is.all_done k lt in
                    (d.0, ap mark' same ∙ still_done _ d.0 d.1)
                | inr (ge, e) ↦ (length s.order, e)
              ];
          once = λ j k jk h same.
              let past : (i : ℕ) → i < length order' → length s.order ≤ i
              → (start + (i - length s.order) < length s.path)
              × (get_or order' i 0 ≡ get_or s.path (start + (i - length s.order)) 0) =
              λ i hi ge.
              let on : start + (i - length s.order) < length s.path = omega (arith, listing, start_in_path) in
              (on, ap (λ n. get_or order' n 0) (let e : i ≡ length s.order + (i - length s.order) = omega arith in e) ∙ listed_now (i - length s.order) on) in
              elim (cases_lt k (length s.order)) [
                | inl kl ↦ is.once j k jk kl (sym (listed_before j (omega arith)) ∙ same ∙ listed_before k kl)
                | inr kg ↦
                    let b = past k h kg in
                    elim (cases_lt j (length s.order)) [
                      | inl jl ↦
                          let d = is.all_done j jl in
                          let open' : s.mark (get_or s.order j 0) ≡ Open (start + (k - length s.order)) =
                          ap s.mark (sym (listed_before j jl) ∙ same ∙ b.1) ∙ is.on_path _ b.0 in
                          let done' : s.mark (get_or s.order j 0) ≡ Done d.0 = d.1 in cc
                      | inr jg ↦
                          let a = past j (omega arith) jg in
                          let one = is.on_path _ a.0 in
                          let two = is.on_path _ b.0 in
                          let both : Open (start + (j - length s.order)) ≡ Open (start + (k - length s.order)) =
                          sym one ∙ ap s.mark (sym a.1 ∙ same ∙ b.1) ∙ two in
                          let eq : start + (j - length s.order) ≡ start + (k - length s.order) = (cc) in
                          omega (arith, eq, jk, jg, kg)
                    ]
              ];
          ordered = λ j k c jk h e.
              elim (order_cases k h) [
                | inl (lt, same) ↦
                    elim (was_done _ c (ap mark' (sym same) ∙ e)) [
                      | inl old ↦
                          subst (λ x. DoneBy c (mark' x)) (sym (listed_before j (omega arith)))
                          (still_done_by c _ (is.ordered j k c jk lt old))
                      | inr (i, h', on, eq) ↦ let d = is.all_done k lt in let e' : s.mark (get_or s.order k 0) ≡ Done d.0 = d.1 in cc
                    ]
                | inr (ge, at) ↦
                    let now : length s.order ≡ c = (let both : Done (length s.order) ≡ Done c = sym at ∙ e in cc) in
                    elim (order_cases j (omega arith)) [
                      | inl (lt, same) ↦
                          let d = is.all_done j lt in
                          subst (λ x. DoneBy c (mark' x)) (sym same)
                          (subst (λ m. DoneBy c m) (sym (still_done _ d.0 d.1)) (omega (arith, is.below _ d.0 d.1, now)))
                      | inr (ge', at') ↦ subst (λ m. DoneBy c m) (sym at') (omega (arith, now))
                    ]
              ];
          untouched = λ v e. is.untouched v (was_unseen v e);
          rising = rising_cut s.work work' (length s.work - 1) work (omega arith) is.rising;
          in_path = λ k h.
              let lt : k < length s.work - 1 = omega (arith, work.less) in
              omega (arith, is.rising k (length s.work - 1) lt (omega arith), top, work.same k lt, path.less);
          bounds_rise = rising_cut s.bounds bounds' (length s.bounds - 1) bounds (omega arith) is.bounds_rise;
          bounds_work = λ k h.
              let lt : k < length s.bounds - 1 = omega (arith, bounds.less) in
              subst (λ x. Stands work' x) (sym (bounds.same k lt))
              (still_stands _
              (λ e. omega (arith, is.bounds_rise k (length s.bounds - 1) lt (omega arith), begins, e))
              (is.bounds_work k (omega arith)));
          unfinished = λ v i e left.
              let was = was_open v i e in
              still_stands i (λ same. omega (arith, was.1, same)) (is.unfinished v i was.0 left);
          first = λ h.
              let old = is.first (omega (arith, start_in_path)) in
              elim (cases_lt 0 (length s.bounds - 1)) [
                | inl lt ↦ (omega (arith, bounds.less), bounds.same 0 lt ∙ old.1)
                | inr ge ↦
                    let e : 0 ≡ length s.bounds - 1 = omega (arith, ge) in
                    absurd (omega (arith, ap (λ n. get_or s.bounds n 0) e, begins, old.1, path.less))
              ];
        }

    -- and nothing was seen anew
    pub emits_both :
        IsSearching g (record s { mark = mark'; path = path'; bounds = bounds'; work = work'; order = order' })
        × ((v : ℕ) → mark' v ≡ Unseen → s.mark v ≡ Unseen)
    emits_both = (emits_keeps, was_unseen)
