-- What each step of the search keeps.
use Rattle.std.proofs.Common.{◌≡◌, ℕ, ◌+◌, ◌-◌, ◌<◌, ◌≤◌, inl, inr, List, [], ◌∷◌, ◌++◌, length, get_or, take, refl, sym, ◌∙◌, ap, subst, arith}
use Rattle.std.proofs.Math.ListN.{get_or-append}
use Rattle.std.proofs.lemmas.List.{length_push, get_or_push, get_or-take, length-take-le}
use Rattle.std.proofs.lemmas.Bool.{cases_lt, cases_eq}
use Rattle.definition_graph.specs.declared.search.Mark.{Mark}
use Rattle.definition_graph.specs.declared.search.Mark.TheVariants.{Unseen, Open, Done}
use Rattle.definition_graph.specs.Reaching.{Edge, Leads, successors}
use Rattle.definition_graph.specs.inside.SearchState.{SearchState, Joined, Settled, DoneBy, Rising, Stands, IsSearching}
use Rattle.definition_graph.proofs.Leading.{leads_itself, leads_through, leads_to}

-- a list with one more at its end
pub record IsPushed (xs : List ℕ) (x : ℕ) (ys : List ℕ) : Type 0 where
  pub more : length ys ≡ length xs + 1
  pub same : (k : ℕ) → k < length xs → get_or ys k 0 ≡ get_or xs k 0
  pub last : get_or ys (length xs) 0 ≡ x

pub pushed : (xs ys : List ℕ) (x : ℕ) → ys ≡ xs ++ x ∷ [] → IsPushed xs x ys
pushed xs ys x e =
    record {
      more = ap length e ∙ length_push xs x;
      same = λ k h. ap (λ l. get_or l k 0) e ∙ get_or-append xs (x ∷ []) 0 k h;
      last = ap (λ l. get_or l (length xs) 0) e ∙ get_or_push xs x 0 (length xs) refl;
    }

-- a list cut short
pub record IsCut (xs : List ℕ) (n : ℕ) (ys : List ℕ) : Type 0 where
  pub less : length ys ≡ n
  pub same : (k : ℕ) → k < n → get_or ys k 0 ≡ get_or xs k 0

pub cut : (xs ys : List ℕ) (n : ℕ) → ys ≡ take n xs → n ≤ length xs → IsCut xs n ys
cut xs ys n e h =
    record {
      less = ap length e ∙ length-take-le n xs h;
      same = λ k below. ap (λ l. get_or l k 0) e ∙ get_or-take n xs k 0 below;
    }

stands_pushed : (xs ys : List ℕ) (x y : ℕ) → IsPushed xs x ys → Stands xs y → Stands ys y
stands_pushed xs ys x y p h = (h.0, omega (arith, p.more, h.1), p.same h.0 h.1 ∙ h.2)

-- by the first place that differs, one place of the longer list at a time
rising_pushed : (xs ys : List ℕ) (x : ℕ) → IsPushed xs x ys → ((k : ℕ) → k < length xs → get_or xs k 0 < x) → Rising xs → Rising ys
rising_pushed xs ys x p above up j k jk h =
    elim (cases_lt k (length xs)) [
      | inl lt ↦ omega (arith, up j k jk lt, p.same j (omega arith), p.same k lt)
      | inr ge ↦
          let e : k ≡ length xs = omega (arith, p.more) in
          omega (arith, above j (omega arith), p.same j (omega arith), ap (λ n. get_or ys n 0) e, p.last)
    ]

pub rising_cut : (xs ys : List ℕ) (n : ℕ) → IsCut xs n ys → n ≤ length xs → Rising xs → Rising ys
rising_cut xs ys n c within up j k jk h =
    omega (arith, up j k jk (omega (arith, c.less)), c.same j (omega (arith, c.less)), c.same k (omega (arith, c.less)))

pub settled_wider :
    (bounds bounds' : List ℕ) (i : ℕ) (m : Mark) → ((j : ℕ) → Joined bounds i j → Joined bounds' i j) → Settled bounds i m
    → Settled bounds' i m
settled_wider bounds bounds' i Unseen wider h = h
settled_wider bounds bounds' i (Open j) wider h = wider j h
settled_wider bounds bounds' i (Done d) wider h = h

module _ (g : List (List ℕ)) (s : SearchState) (is : IsSearching g s) where
  -- each group begins at or below the top of the work
  pub bounds_below :
      (top : ℕ) → 0 < length s.work → top ≡ get_or s.work (length s.work - 1) 0 → (k : ℕ) → k < length s.bounds
      → get_or s.bounds k 0 ≤ top
  bounds_below top some e k h =
      let m = is.bounds_work k h in
      elim (cases_lt m.0 (length s.work - 1)) [
        | inl lt ↦ omega (arith, is.rising m.0 (length s.work - 1) lt (omega arith), m.2, e)
        | inr ge ↦
            let same : m.0 ≡ length s.work - 1 = omega (arith, m.1) in
            omega (arith, ap (λ n. get_or s.work n 0) same, m.2, e)
      ]

  -- all of the path leads to what the top of the work names
  pub all_lead :
      (top w : ℕ) → 0 < length s.work → top ≡ get_or s.work (length s.work - 1) 0 → Edge g (get_or s.path top 0) w → (i : ℕ)
      → i < length s.path → Leads g (get_or s.path i 0) w
  all_lead top w some e edge i h =
      let in_path : top < length s.path = omega (arith, is.in_path (length s.work - 1) (omega arith), e) in
      leads_to g (get_or s.path i 0) (get_or s.path top 0) w
      (is.leads i top h in_path (λ k hk _. bounds_below top some e k hk)) edge

  module _
      (w : ℕ) (mark' : ℕ → Mark) (path' bounds' work' : List ℕ) (unseen : s.mark w ≡ Unseen) (in_graph : w < length g)
      (lead : (i : ℕ) → i < length s.path → Leads g (get_or s.path i 0) w) (marked : mark' w ≡ Open (length s.path))
      (others : (v : ℕ) → (v ≡ w → ⊥) → mark' v ≡ s.mark v) (path : IsPushed s.path w path')
      (bounds : IsPushed s.bounds (length s.path) bounds') (work : IsPushed s.work (length s.path) work') where
    bound_in_path : (k : ℕ) → k < length s.bounds → get_or s.bounds k 0 < length s.path
    bound_in_path k h =
        let m = is.bounds_work k h in
        omega (arith, is.in_path m.0 m.1, m.2)

    was_open : (v i : ℕ) → (v ≡ w → ⊥) → mark' v ≡ Open i → s.mark v ≡ Open i
    was_open v i ne e = sym (others v ne) ∙ e

    not_done : (v c : ℕ) → mark' v ≡ Done c → v ≡ w → ⊥
    not_done v c e same = let h : mark' w ≡ Done c = subst (λ x. mark' x ≡ Done c) same e in cc

    was_done : (v c : ℕ) → mark' v ≡ Done c → s.mark v ≡ Done c
    was_done v c e = sym (others v (not_done v c e)) ∙ e

    is_done : (v c : ℕ) → s.mark v ≡ Done c → mark' v ≡ Done c
    is_done v c e = others v (λ same. let h : s.mark w ≡ Done c = subst (λ x. s.mark x ≡ Done c) same e in cc) ∙ e

    -- what was not unseen is not w
    kept : (P : Mark → Type 0) → (P Unseen → ⊥) → (v : ℕ) → P (s.mark v) → P (mark' v)
    kept P never v h = subst P (sym (others v (λ same. never (subst P (ap s.mark same ∙ unseen) h)))) h

    wider : (i j : ℕ) → i < length s.path → Joined s.bounds i j → Joined bounds' i j
    wider i j hi joined k hk le =
        elim (cases_lt k (length s.bounds)) [
          | inl lt ↦ omega (arith, joined k lt (omega (arith, bounds.same k lt)), bounds.same k lt)
          | inr ge ↦
              let e : k ≡ length s.bounds = omega (arith, bounds.more) in
              absurd (omega (arith, ap (λ n. get_or bounds' n 0) e, bounds.last))
        ]

    at_end : (i : ℕ) → i < length path' → (i < length s.path → ⊥) → i ≡ length s.path
    at_end i h past = omega (arith, path.more)

    pub opens_keeps :
        IsSearching g (record s { mark = mark'; path = path'; bounds = bounds'; work = work' })
    opens_keeps =
        record {
          on_path = λ i h.
              elim (cases_lt i (length s.path)) [
                | inl lt ↦
                    let old : s.mark (get_or s.path i 0) ≡ Open i = is.on_path i lt in
                    let same : mark' (get_or s.path i 0) ≡ s.mark (get_or s.path i 0) =
                    others (get_or s.path i 0) (λ e. let h : s.mark w ≡ Open i = subst (λ x. s.mark x ≡ Open i) e old in cc) in
                    ap mark' (path.same i lt) ∙ same ∙ old
                | inr ge ↦
                    let e : i ≡ length s.path = omega (arith, path.more) in
                    ap mark' (ap (λ n. get_or path' n 0) e ∙ path.last) ∙ marked ∙ ap Open (sym e)
              ];
          within = λ i h.
              elim (cases_lt i (length s.path)) [
                | inl lt ↦ omega (arith, path.same i lt, is.within i lt)
                | inr ge ↦
                    let e : i ≡ length s.path = omega (arith, path.more) in
                    omega (arith, ap (λ n. get_or path' n 0) e, path.last, in_graph)
              ];
          opened = λ v i e.
              elim (cases_eq v w) [
                | inl same ↦
                    let at : Open (length s.path) ≡ Open i = sym marked ∙ ap mark' (sym same) ∙ e in
                    let n : length s.path ≡ i = (cc) in
                    (omega (arith, path.more, n), ap (λ m. get_or path' m 0) (sym n) ∙ path.last ∙ sym same)
                | inr ne ↦
                    let old = is.opened v i (was_open v i ne e) in
                    (omega (arith, path.more, old.0), path.same i old.0 ∙ old.1)
              ];
          leads = λ i j hi hj joined.
              elim (cases_lt j (length s.path)) [
                | inl jl ↦
                    elim (cases_lt i (length s.path)) [
                      | inl il ↦
                          subst (λ x. Leads g x (get_or path' j 0)) (sym (path.same i il))
                          (subst (λ x. Leads g (get_or s.path i 0) x) (sym (path.same j jl))
                          (is.leads i j il jl (λ k hk le.
                          omega (arith, joined k (omega (arith, bounds.more)) (omega (arith, bounds.same k hk)), bounds.same k hk))))
                      | inr ge ↦ absurd (omega (arith, joined (length s.bounds) (omega (arith, bounds.more)) (omega (arith, bounds.last)), bounds.last))
                    ]
                | inr jg ↦
                    let e : get_or path' j 0 ≡ w = ap (λ n. get_or path' n 0) (omega (arith, path.more)) ∙ path.last in
                    subst (λ x. Leads g (get_or path' i 0) x) (sym e)
                    (elim (cases_lt i (length s.path)) [
                      | inl il ↦ subst (λ x. Leads g x w) (sym (path.same i il)) (lead i il)
                      | inr ge ↦
                          let e' : get_or path' i 0 ≡ w = ap (λ n. get_or path' n 0) (omega (arith, path.more)) ∙ path.last in
                          subst (λ x. Leads g x w) (sym e') (leads_itself g w)
                    ])
              ];
          settled = λ v i k e hk hd.
              elim (cases_eq v w) [
                | inl same ↦
                    let full : s.left v ≡ length (successors g v) = is.untouched v (ap s.mark same ∙ unseen) in
                    absurd (omega (arith, full))
                | inr ne ↦
                    let old : s.mark v ≡ Open i = was_open v i ne e in
                    let in_path = is.opened v i old in
                    let x : ℕ = get_or (successors g v) k 0 in
                    kept (λ m. Settled bounds' i m) (λ h. h) x
                    (settled_wider s.bounds bounds' i (s.mark x) (λ j joined. wider i j in_path.0 joined) (is.settled v i k old hk hd))
              ];
          closed = λ v c k e hk. kept (λ m. DoneBy c m) (λ h. h) (get_or (successors g v) k 0) (is.closed v c k (was_done v c e) hk);
          both_ways = λ v u c e f. is.both_ways v u c (was_done v c e) (was_done u c f);
          below = λ v c e. is.below v c (was_done v c e);
          listed = λ v c e. is.listed v c (was_done v c e);
          all_done = λ k h. let d = is.all_done k h in (d.0, is_done _ d.0 d.1);
          once = is.once;
          ordered = λ j k c jk h e.
              kept (λ m. DoneBy c m) (λ h. h) (get_or s.order j 0) (is.ordered j k c jk h (was_done _ c e));
          untouched = λ v e.
              elim (cases_eq v w) [
                | inl same ↦ let h : mark' w ≡ Unseen = subst (λ x. mark' x ≡ Unseen) same e in cc
                | inr ne ↦ is.untouched v (sym (others v ne) ∙ e)
              ];
          rising = rising_pushed s.work work' (length s.path) work is.in_path is.rising;
          in_path = λ k h.
              elim (cases_lt k (length s.work)) [
                | inl lt ↦ omega (arith, work.same k lt, is.in_path k lt, path.more)
                | inr ge ↦
                    let e : k ≡ length s.work = omega (arith, work.more) in
                    omega (arith, ap (λ n. get_or work' n 0) e, work.last, path.more)
              ];
          bounds_rise = rising_pushed s.bounds bounds' (length s.path) bounds bound_in_path is.bounds_rise;
          bounds_work = λ k h.
              elim (cases_lt k (length s.bounds)) [
                | inl lt ↦
                    subst (λ x. Stands work' x) (sym (bounds.same k lt))
                    (stands_pushed s.work work' (length s.path) _ work (is.bounds_work k lt))
                | inr ge ↦
                    let e : get_or bounds' k 0 ≡ length s.path = ap (λ n. get_or bounds' n 0) (omega (arith, bounds.more)) ∙ bounds.last in
                    (length s.work, omega (arith, work.more), work.last ∙ sym e)
              ];
          unfinished = λ v i e some.
              elim (cases_eq v w) [
                | inl same ↦
                    let at : Open (length s.path) ≡ Open i = sym marked ∙ ap mark' (sym same) ∙ e in
                    let n : length s.path ≡ i = (cc) in
                    (length s.work, omega (arith, work.more), work.last ∙ n)
                | inr ne ↦ stands_pushed s.work work' (length s.path) i work (is.unfinished v i (was_open v i ne e) some)
              ];
          first = λ _.
              elim (cases_lt 0 (length s.path)) [
                | inl some ↦
                    let old = is.first some in
                    (omega (arith, bounds.more), bounds.same 0 old.0 ∙ old.1)
                | inr none ↦
                    elim (cases_lt 0 (length s.bounds)) [
                      | inl h ↦ absurd (omega (arith, bound_in_path 0 h))
                      | inr h ↦ (omega (arith, bounds.more), ap (λ n. get_or bounds' n 0) (omega arith) ∙ bounds.last ∙ omega arith)
                    ]
              ];
        }

  -- groups join down to the one of place p, which all of the path leads to
  module _
      (p keep : ℕ) (bounds' : List ℕ) (on : p < length s.path) (enough : keep ≤ length s.bounds)
      (lead : (i : ℕ) → i < length s.path → Leads g (get_or s.path i 0) (get_or s.path p 0))
      (low : (k : ℕ) → k < keep → get_or s.bounds k 0 ≤ p)
      (high : (k : ℕ) → keep ≤ k → k < length s.bounds → p < get_or s.bounds k 0) (short : IsCut s.bounds keep bounds') where
    fewer : (i j : ℕ) → Joined s.bounds i j → Joined bounds' i j
    fewer i j joined k hk le =
        omega (arith, joined k (omega (arith, short.less)) (omega (arith, short.same k (omega (arith, short.less)))), short.same k (omega (arith, short.less)))

    -- what was joined to places at or below p
    was_joined : (i j x : ℕ) → x ≤ p → x ≤ i → Joined bounds' i j → Joined s.bounds x j
    was_joined i j x at below joined k hk le =
        elim (cases_lt k keep) [
          | inl lt ↦ omega (arith, joined k (omega (arith, short.less)) (omega (arith, short.same k lt)), short.same k lt)
          | inr ge ↦ absurd (omega (arith, high k (omega arith) hk))
        ]

    pub joins_keeps : IsSearching g (record s { bounds = bounds' })
    joins_keeps =
        record {
          on_path = is.on_path;
          within = is.within;
          opened = is.opened;
          closed = is.closed;
          both_ways = is.both_ways;
          below = is.below;
          listed = is.listed;
          all_done = is.all_done;
          once = is.once;
          ordered = is.ordered;
          untouched = is.untouched;
          rising = is.rising;
          in_path = is.in_path;
          unfinished = is.unfinished;
          leads = λ i j hi hj joined.
              elim (cases_lt p i) [
                | inl lt ↦
                    leads_through g (get_or s.path i 0) (get_or s.path p 0) (get_or s.path j 0) (lead i hi)
                    (is.leads p j on hj (was_joined i j p (omega arith) (omega arith) joined))
                | inr ge ↦ is.leads i j hi hj (was_joined i j i (omega arith) (omega arith) joined)
              ];
          settled = λ v i k e hk hd.
              settled_wider s.bounds bounds' i (s.mark (get_or (successors g v) k 0)) (fewer i) (is.settled v i k e hk hd);
          bounds_rise = rising_cut s.bounds bounds' keep short enough is.bounds_rise;
          bounds_work = λ k h.
              subst (λ x. Stands s.work x) (sym (short.same k (omega (arith, short.less))))
              (is.bounds_work k (omega (arith, short.less)));
          first = λ some.
              let old = is.first some in
              elim (cases_lt 0 keep) [
                | inl lt ↦ (omega (arith, short.less), short.same 0 lt ∙ old.1)
                | inr ge ↦ absurd (omega (arith, high 0 (omega arith) old.0, old.1))
              ];
        }

    pub joins_settles : (i : ℕ) → Joined bounds' i p
    joins_settles i k hk le = omega (arith, low k (omega (arith, short.less)), short.same k (omega (arith, short.less)))

  -- an edge was followed
  pub follows_keeps :
      (v at : ℕ) (left' : ℕ → ℕ) → s.mark v ≡ Open at → s.left v ≡ left' v + 1 → ((u : ℕ) → (u ≡ v → ⊥) → left' u ≡ s.left u)
      → Settled s.bounds at (s.mark (get_or (successors g v) (left' v) 0)) → IsSearching g (record s { left = left' })
  follows_keeps v at left' on less others settled =
      record {
        on_path = is.on_path;
        within = is.within;
        opened = is.opened;
        leads = is.leads;
        closed = is.closed;
        both_ways = is.both_ways;
        below = is.below;
        listed = is.listed;
        all_done = is.all_done;
        once = is.once;
        ordered = is.ordered;
        rising = is.rising;
        in_path = is.in_path;
        bounds_rise = is.bounds_rise;
        bounds_work = is.bounds_work;
        first = is.first;
        settled = λ u i k e hk hd.
            elim (cases_eq u v) [
              | inl same ↦
                  let here : s.mark v ≡ Open i = subst (λ x. s.mark x ≡ Open i) same e in
                  let place : at ≡ i = (cc) in
                  elim (cases_eq k (left' v)) [
                    | inl eq ↦
                        subst (λ n. Settled s.bounds i (s.mark (get_or (successors g u) n 0))) (sym eq)
                        (subst (λ x. Settled s.bounds i (s.mark (get_or (successors g x) (left' v) 0))) (sym same)
                        (subst (λ n. Settled s.bounds n (s.mark (get_or (successors g v) (left' v) 0))) place settled))
                    | inr ne ↦
                        let more : left' v ≤ k = subst (λ x. left' x ≤ k) same hk in
                        is.settled u i k e (omega (arith, less, ap s.left same)) hd
                  ]
              | inr ne ↦ is.settled u i k e (omega (arith, others u ne)) hd
            ];
        untouched = λ u e.
            others u (λ same. let h : s.mark v ≡ Unseen = subst (λ x. s.mark x ≡ Unseen) same e in cc) ∙ is.untouched u e;
        unfinished = λ u i e some.
            elim (cases_eq u v) [
              | inl same ↦
                  let here : s.mark v ≡ Open i = subst (λ x. s.mark x ≡ Open i) same e in
                  is.unfinished u i e (omega (arith, less, ap s.left same))
              | inr ne ↦ is.unfinished u i e (omega (arith, others u ne))
            ];
      }

  -- the top of the work has no edges left, and begins no group
  pub closes_keeps :
      (work' : List ℕ) (top : ℕ) → 0 < length s.work → IsCut s.work (length s.work - 1) work'
      → top ≡ get_or s.work (length s.work - 1) 0 → s.left (get_or s.path top 0) ≡ 0
      → ((k : ℕ) → k < length s.bounds → get_or s.bounds k 0 ≡ top → ⊥) → IsSearching g (record s { work = work' })
  closes_keeps work' top some short e none apart =
      let in_path : top < length s.path = omega (arith, is.in_path (length s.work - 1) (omega arith), e) in
      let still : (x : ℕ) → (x ≡ top → ⊥) → Stands s.work x → Stands work' x =
      λ x ne h.
      elim (cases_lt h.0 (length s.work - 1)) [
        | inl lt ↦ (h.0, omega (arith, short.less), short.same h.0 lt ∙ h.2)
        | inr ge ↦
            let last : h.0 ≡ length s.work - 1 = omega (arith, h.1) in
            absurd (ne (sym h.2 ∙ ap (λ n. get_or s.work n 0) last ∙ sym e))
      ] in
      record {
        on_path = is.on_path;
        within = is.within;
        opened = is.opened;
        leads = is.leads;
        settled = is.settled;
        closed = is.closed;
        both_ways = is.both_ways;
        below = is.below;
        listed = is.listed;
        all_done = is.all_done;
        once = is.once;
        ordered = is.ordered;
        untouched = is.untouched;
        rising = rising_cut s.work work' (length s.work - 1) short (omega arith) is.rising;
        in_path = λ k h. omega (arith, is.in_path k (omega (arith, short.less)), short.same k (omega (arith, short.less)));
        bounds_rise = is.bounds_rise;
        bounds_work = λ k h. still _ (apart k h) (is.bounds_work k h);
        unfinished = λ v i o left.
            still i
            (λ same.
            let here : get_or s.path top 0 ≡ v = ap (λ n. get_or s.path n 0) (sym same) ∙ (is.opened v i o).1 in
            omega (arith, ap s.left here))
            (is.unfinished v i o left);
        first = is.first;
      }
