-- What a definition holds, from what those hold that it names.
use Rattle.std.proofs.Common.{◌≡◌, ℕ, ◌+◌, ◌<◌, ◌≤◌, inl, inr, zero, suc, List, [], ◌∷◌, ◌++◌, length, get_or, set, refl, sym, ◌∙◌, ap, subst, arith, Some, None, length-append, get_or-set_same, get_or-set_other, length-set}
use Rattle.std.specs.Prelude.{min, sum_by, Option, is_some, false}
use Rattle.std.specs.List.{Contains}
use Rattle.std.proofs.lemmas.List.Sums.{sum_by-cons}
use Rattle.std.proofs.lemmas.Bool.{cases_lt, false≢true}
use Rattle.definition_graph.specs.Reaching.{Edge, ChainLeads, ReachesByEdges, IsGraph, successors}
use Rattle.definition_graph.specs.Surveying.{IsChain, IsLongestChain, IsDepth, IsReverseTopological, AreDepths}
use Rattle.definition_graph.specs.Totals.{held_within, AreTotals}
use Rattle.definition_graph.proofs.Leading.{leads_itself}
use Rattle.definition_graph.proofs.Deepening.{deepest_cycle}

module _ (g : List (List ℕ)) where
  -- a chain goes on where one ends
  chain_on : (a b : ℕ) (first rest : List ℕ) → ChainLeads g a first b → IsChain g b rest → IsChain g a (first ++ rest)
  chain_on a b [] rest e chain = subst (λ x. IsChain g x rest) (sym e) chain
  chain_on a b (m ∷ first) rest h chain = (h.0, chain_on m b first rest h.1 chain)

  -- from a node that reaches itself chains are as long as one likes
  pub cycle_long : (r : ℕ) → ReachesByEdges g r r → (n : ℕ) → (rest : List ℕ) × IsChain g r rest × (n ≤ length rest)
  cycle_long r cycle zero = ([], tt, omega arith)
  cycle_long r cycle (suc n) =
      let more = cycle_long r cycle n in (
        cycle.next ∷ cycle.chain ++ more.0,
        chain_on r r (cycle.next ∷ cycle.chain) more.0 cycle.linked more.1,
        omega (arith, more.2, length-append cycle.chain more.0),
      )

  -- so no chain is a longest
  pub longest_no_cycle : (a n : ℕ) → IsLongestChain g a n → IsDepth g a None → ⊥
  longest_no_cycle a n longest (r, leads, cycle) =
      let more = cycle_long r cycle n in
      omega (
        arith,
        longest.most (leads.chain ++ more.0) (chain_on a r leads.chain more.0 leads.linked more.1),
        length-append leads.chain more.0,
        more.2,
      )

  -- what a node with a longest chain names has one that is shorter
  pub longest_below :
      (a b n : ℕ) (depth : Option ℕ) → IsLongestChain g a n → Edge g a b → IsDepth g b depth
      → (m : ℕ) × IsLongestChain g b m × (m < n)
  longest_below a b n None longest edge deep = absurd (longest_no_cycle a n longest (deepest_cycle g a b edge deep))
  longest_below a b n (Some d) longest edge (m, deep, capped) =
      (m, deep, omega (arith, deep.count, longest.most (b ∷ deep.rest) (edge, deep.chain)))

-- a sum of capped terms, capped
capped_sum :
    (limit : ℕ) (f h : ℕ → ℕ) (own : ℕ) (xs : List ℕ) → ((x : ℕ) → Contains xs x → f x ≡ min limit (h x))
    → min limit (own + sum_by f xs) ≡ min limit (own + sum_by h xs)
capped_sum limit f h own [] same = refl
capped_sum limit f h own (x ∷ xs) same =
    let rest = capped_sum limit f h (own + h x) xs (λ y c. same y (suc c.0, omega (arith, c.1), c.2)) in
    omega (arith, rest, same x (0, omega arith, refl), sum_by-cons f x xs, sum_by-cons h x xs)

-- the totals of those in the order so far
pub record Totals (g : List (List ℕ)) (own : List ℕ) (limit : ℕ) (order totals : List ℕ) (i : ℕ) : Type 0 where
  pub each : length totals ≡ length g
  pub right :
      (j nodes levels : ℕ) → j < i → IsLongestChain g (get_or order j 0) nodes → nodes ≤ levels
      → get_or totals (get_or order j 0) 0 ≡ min limit (held_within g own levels (get_or order j 0))

module _
    (g : List (List ℕ)) (own : List ℕ) (limit : ℕ) (order totals : List ℕ) (depths : List (Option ℕ)) (i : ℕ)
    (sorted : IsReverseTopological g order) (deep : AreDepths g depths) (sound : IsGraph g) (on : i < length order)
    (so_far : Totals g own limit order totals i) where
  -- one more, which holds what those that it names hold
  pub totals_more :
      (total : ℕ) (totals' : List ℕ)
      → total ≡ min limit (get_or own (get_or order i 0) 0 + sum_by (λ b. get_or totals b 0) (successors g (get_or order i 0)))
      → totals' ≡ set totals (get_or order i 0) total → Totals g own limit order totals' (i + 1)
  totals_more total totals' is same =
      let a : ℕ = get_or order i 0 in
      let here : get_or totals' a 0 ≡ total =
      ap (λ xs. get_or xs a 0) same ∙ get_or-set_same totals a total 0 (omega (arith, so_far.each, sorted.within i on)) in
      record {
        each = ap length same ∙ length-set totals a total ∙ so_far.each;
        right = λ j nodes levels h longest le.
            elim (cases_lt j i) [
              | inl lt ↦
                  ap (λ xs. get_or xs (get_or order j 0) 0) same
                  ∙ get_or-set_other totals a (get_or order j 0) total 0 (sorted.once j i lt on) ∙ so_far.right j nodes levels lt longest le
              | inr ge ↦
                  let e : i ≡ j = omega arith in
                  subst (λ n. get_or totals' (get_or order n 0) 0 ≡ min limit (held_within g own levels (get_or order n 0))) e
                  (here ∙ is ∙ all levels nodes (subst (λ n. IsLongestChain g (get_or order n 0) nodes) (sym e) longest) le)
            ];
      }
    where
      -- each that it names has its total already
      all :
          (levels nodes : ℕ) → IsLongestChain g (get_or order i 0) nodes → nodes ≤ levels
          → min limit (get_or own (get_or order i 0) 0 + sum_by (λ b. get_or totals b 0) (successors g (get_or order i 0)))
          ≡ min limit (held_within g own levels (get_or order i 0))
      all zero nodes longest le = absurd (omega (arith, longest.count, le))
      all (suc levels) nodes longest le =
          let a : ℕ = get_or order i 0 in
          capped_sum limit (λ b. get_or totals b 0) (held_within g own levels) (get_or own a 0) (successors g a)
          (λ b edge.
          let below = longest_below g a b nodes (get_or depths b None) longest edge (deep.right b (sound a b edge)) in
          let at = sorted.after i b on (λ cycle. longest_no_cycle g a nodes longest (a, leads_itself g a, cycle)) edge in
          subst (λ x. get_or totals x 0 ≡ min limit (held_within g own levels x)) at.2
          (so_far.right at.0 below.0 levels at.1 (subst (λ x. IsLongestChain g x below.0) (sym at.2) below.1) (omega (arith, below.2, le))))

  -- or one that leads to a cycle
  pub totals_cycle : IsDepth g (get_or order i 0) None → Totals g own limit order totals (i + 1)
  totals_cycle cycle =
      record {
        each = so_far.each;
        right = λ j nodes levels h longest le.
            elim (cases_lt j i) [
              | inl lt ↦ so_far.right j nodes levels lt longest le
              | inr ge ↦
                  let e : j ≡ i = omega arith in
                  absurd (longest_no_cycle g (get_or order i 0) nodes (subst (λ n. IsLongestChain g (get_or order n 0) nodes) e longest) cycle)
            ];
      }

pub totals_all :
    (g : List (List ℕ)) (own : List ℕ) (limit : ℕ) (order totals : List ℕ) (i : ℕ) → IsReverseTopological g order → length order ≤ i
    → Totals g own limit order totals i → AreTotals g own limit totals
totals_all g own limit order totals i sorted over so_far =
    record {
      each = so_far.each;
      right = λ a nodes levels h longest le.
          let at = sorted.listed a h in
          subst (λ x. get_or totals x 0 ≡ min limit (held_within g own levels x)) at.2
          (so_far.right at.0 nodes levels (omega (arith, at.1)) (subst (λ x. IsLongestChain g x nodes) (sym at.2) longest) le);
    }

-- a depth that isn't there
pub not_some : (depth : Option ℕ) → false ≡ is_some depth → depth ≡ None
not_some None e = refl
not_some (Some d) e = absurd (false≢true e)
