-- Facts about the search's fields after a step.
use Rattle.std.proofs.Common.{◌≡◌, ℕ, ◌+◌, ◌-◌, ◌<◌, ◌≤◌, inl, inr, List, [], ◌∷◌, ◌++◌, length, get_or, set, take, drop, sym, ◌∙◌, ap, subst, arith, get_or-set_same, get_or-set_other, length-set, append_assoc}
use Rattle.std.proofs.lemmas.List.{take_more, get_or-drop, length-drop}
use Rattle.std.proofs.lemmas.Bool.{cases_lt, cases_eq}
use Rattle.definition_graph.specs.declared.search.Mark.{Mark}
use Rattle.definition_graph.specs.declared.search.Mark.TheVariants.{Unseen, Done}
use Rattle.definition_graph.specs.inside.SearchState.{Rising}
use Rattle.definition_graph.specs.inside.SearchSteps.{MarksDone}

-- what rises is at most its last
pub low_from_last :
    (xs : List ℕ) (keep place : ℕ) → Rising xs → keep ≤ length xs → (0 < keep → get_or xs (keep - 1) 0 ≤ place) → (k : ℕ)
    → k < keep → get_or xs k 0 ≤ place
low_from_last xs keep place up within last k h =
    elim (cases_lt k (keep - 1)) [
      | inl lt ↦ omega (arith, up k (keep - 1) lt (omega arith), last (omega arith))
      | inr ge ↦
          let e : k ≡ keep - 1 = omega arith in
          omega (arith, ap (λ n. get_or xs n 0) e, last (omega arith))
    ]

-- one more node of the path is marked
pub marks_more :
    (path : List ℕ) (start place c node : ℕ) (old new : List Mark) → start ≤ place → place < length path
    → node ≡ get_or path place 0 → node < length old → MarksDone path start place c old new
    → MarksDone path start (place + 1) c old (set new node (Done c))
marks_more path start place c node old new from on is within marks =
    record {
      each = length-set new node (Done c) ∙ marks.each;
      done = λ i le lt.
          elim (cases_eq (get_or path i 0) node) [
            | inl same ↦
                subst (λ x. get_or (set new node (Done c)) x Unseen ≡ Done c) (sym same)
                (get_or-set_same new node (Done c) Unseen (omega (arith, marks.each)))
            | inr ne ↦
                get_or-set_other new node (get_or path i 0) (Done c) Unseen ne
                ∙ (elim (cases_lt i place) [
                  | inl below ↦ marks.done i le below
                  | inr above ↦ absurd (ne (ap (λ n. get_or path n 0) (omega arith) ∙ sym is))
                ])
          ];
      others = λ v apart.
          get_or-set_other new node v (Done c) Unseen (λ e. apart place from (omega arith) (sym is ∙ sym e))
          ∙ marks.others v (λ i le lt e. apart i le (omega (arith, lt)) e);
    }

-- and it goes to the order
pub order_more :
    (before now path : List ℕ) (start place node : ℕ) → start ≤ place → place < length path → node ≡ get_or path place 0
    → now ≡ before ++ take (place - start) (drop start path)
    → now ++ node ∷ [] ≡ before ++ take (place + 1 - start) (drop start path)
order_more before now path start place node from on is e =
    let within : place - start < length (drop start path) = omega (arith, length-drop start path) in
    let at : get_or (drop start path) (place - start) 0 ≡ node =
    get_or-drop start path (place - start) 0 ∙ ap (λ n. get_or path n 0) (omega arith) ∙ sym is in
    let more : take (place + 1 - start) (drop start path) ≡ take (place - start) (drop start path) ++ node ∷ [] =
    ap (λ n. take n (drop start path)) (omega arith) ∙ take_more (drop start path) (place - start) 0 within
    ∙ ap (λ x. take (place - start) (drop start path) ++ x ∷ []) at in
    ap (λ xs. xs ++ node ∷ []) e ∙ append_assoc before _ (node ∷ []) ∙ ap (λ xs. before ++ xs) (sym more)
