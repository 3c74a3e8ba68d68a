-- Flags and depths, one more at a time.
use Rattle.std.proofs.Common.{◌≡◌, ℕ, ◌+◌, ◌<◌, ◌≤◌, inl, inr, Bool, true, false, List, [], ◌∷◌, ◌++◌, length, get_or, set, sym, ◌∙◌, ap, subst, arith, None, get_or-set_same, get_or-set_other, length-set}
use Rattle.std.specs.Prelude.{Option, IsTrue, ◌↔◌}
use Rattle.std.proofs.Math.ListN.{get_or-append}
use Rattle.std.proofs.lemmas.List.{get_or_push}
use Rattle.std.proofs.lemmas.Bool.{cases_lt, cases_eq, false≢true}
use Rattle.definition_graph.specs.Reaching.{Edge, ReachesByEdges}
use Rattle.definition_graph.specs.Surveying.{IsDepth, IsReverseTopological, FlagsReachingItself, AreDepths}
use Rattle.definition_graph.proofs.Leading.{leads_itself}

pub flags_more :
    (g : List (List ℕ)) (flags flags' : List Bool) (node : ℕ) (flag : Bool) → flags' ≡ flags ++ flag ∷ [] → length flags ≡ node
    → (IsTrue flag ↔ ReachesByEdges g node node) → ((a : ℕ) → a < node → (IsTrue (get_or flags a false) ↔ ReachesByEdges g a a)) → (a : ℕ)
    → a < node + 1 → (IsTrue (get_or flags' a false) ↔ ReachesByEdges g a a)
flags_more g flags flags' node flag e count here before a h =
    elim (cases_lt a node) [
      | inl lt ↦
          subst (λ x. IsTrue x ↔ ReachesByEdges g a a)
          (sym (ap (λ xs. get_or xs a false) e ∙ get_or-append flags (flag ∷ []) false a (omega (arith, count)))) (before a lt)
      | inr ge ↦
          let same : node ≡ a = omega arith in
          subst (λ x. IsTrue x ↔ ReachesByEdges g a a)
          (sym (ap (λ xs. get_or xs a false) e ∙ get_or_push flags flag false a (count ∙ same)))
          (subst (λ n. IsTrue flag ↔ ReachesByEdges g n n) same here)
    ]

-- the depths of those in the order so far
pub record Deepens (g : List (List ℕ)) (order : List ℕ) (flags : List Bool) (depths : List (Option ℕ)) (i : ℕ) : Type 0 where
  pub each : length depths ≡ length g
  pub cycles : (a : ℕ) → get_or flags a false ≡ true → get_or depths a None ≡ None
  pub right : (j : ℕ) → j < i → IsDepth g (get_or order j 0) (get_or depths (get_or order j 0) None)

module _
    (g : List (List ℕ)) (order : List ℕ) (flags : List Bool) (depths : List (Option ℕ)) (i : ℕ) (sorted : IsReverseTopological g order)
    (flagged : FlagsReachingItself g flags) (on : i < length order) (so_far : Deepens g order flags depths i) where
  -- what it names was seen to
  pub named_before :
      get_or flags (get_or order i 0) false ≡ false → (b : ℕ) → Edge g (get_or order i 0) b → IsDepth g b (get_or depths b None)
  named_before none b edge =
      let at =
      sorted.after i b on
      (λ cycle. false≢true (sym none ∙ (flagged.right (get_or order i 0) (sorted.within i on)).1 cycle)) edge in
      subst (λ x. IsDepth g x (get_or depths x None)) at.2 (so_far.right at.0 at.1)

  -- a node of a cycle keeps no depth
  pub deepens_cycle : get_or flags (get_or order i 0) false ≡ true → Deepens g order flags depths (i + 1)
  deepens_cycle cycle =
      record {
        each = so_far.each;
        cycles = so_far.cycles;
        right = λ j h.
            elim (cases_lt j i) [
              | inl lt ↦ so_far.right j lt
              | inr ge ↦
                  let e : i ≡ j = omega arith in
                  let a : ℕ = get_or order i 0 in
                  subst (λ n. IsDepth g (get_or order n 0) (get_or depths (get_or order n 0) None)) e
                  (subst (λ d. IsDepth g a d) (sym (so_far.cycles a cycle))
                  (a, leads_itself g a, (flagged.right a (sorted.within i on)).0 cycle))
            ];
      }

  -- another gets its own
  pub deepens_more :
      (node : ℕ) (depth : Option ℕ) (depths' : List (Option ℕ)) → node ≡ get_or order i 0 → get_or flags node false ≡ false
      → IsDepth g node depth → depths' ≡ set depths node depth → Deepens g order flags depths' (i + 1)
  deepens_more node depth depths' is none right same =
      let within : node < length depths = omega (arith, so_far.each, sorted.within i on, is) in
      let here : get_or depths' node None ≡ depth =
      ap (λ xs. get_or xs node None) same ∙ get_or-set_same depths node depth None within in
      let others : (a : ℕ) → (a ≡ node → ⊥) → get_or depths' a None ≡ get_or depths a None =
      λ a ne. ap (λ xs. get_or xs a None) same ∙ get_or-set_other depths node a depth None ne in
      record {
        each = ap length same ∙ length-set depths node depth ∙ so_far.each;
        cycles = λ a cycle.
            others a (λ e. false≢true (sym none ∙ ap (λ x. get_or flags x false) (sym e) ∙ cycle)) ∙ so_far.cycles a cycle;
        right = λ j h.
            elim (cases_eq (get_or order j 0) node) [
              | inl e ↦
                  subst (λ x. IsDepth g x (get_or depths' x None)) (sym e) (subst (λ d. IsDepth g node d) (sym here) right)
              | inr ne ↦
                  elim (cases_lt j i) [
                    | inl lt ↦ subst (λ d. IsDepth g (get_or order j 0) d) (sym (others _ ne)) (so_far.right j lt)
                    | inr ge ↦ absurd (ne (ap (λ n. get_or order n 0) (omega arith) ∙ sym is))
                  ]
            ];
      }

-- all of the order
pub deepens_all :
    (g : List (List ℕ)) (order : List ℕ) (flags : List Bool) (depths : List (Option ℕ)) (i : ℕ) → IsReverseTopological g order
    → length order ≤ i → Deepens g order flags depths i → AreDepths g depths
deepens_all g order flags depths i sorted over so_far =
    record {
      each = so_far.each;
      right = λ a h.
          let at = sorted.listed a h in
          subst (λ x. IsDepth g x (get_or depths x None)) at.2 (so_far.right at.0 (omega (arith, at.1)));
    }
