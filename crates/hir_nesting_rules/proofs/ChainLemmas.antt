-- Chains by what holds what, as chains of the nodes of a graph. A node stands for what it is of, and each that is held has a number.
use Rattle.std.proofs.Common.{◌≡◌, ℕ, suc, ◌+◌, ◌≤◌, List, [], ◌∷◌, length, map, refl, ap, subst, ◌∙◌}
use Rattle.std.proofs.lemmas.List.{length-map}
use Rattle.definition_graph.specs.Reaching.{ChainLeads, Edge, Leads, ReachesByEdges}
use Rattle.definition_graph.specs.Surveying.{IsChain, IsLongestChain}
use Rattle.definition_graph.proofs.Totalling.{longest_no_cycle}
use Rattle.hir_nesting_rules.specs.Chains.{ChainLeadsBy, IsChainBy, IsLongestBy, ReachesBy}

module _ {X : Type 0} (Holds : X → X → Type 0) (g : List (List ℕ)) (At : ℕ → X → Type 0) (number : X → ℕ) (one : (a : ℕ) (x y : X) → At a x → At a y → x ≡ y)
    (down : (a b : ℕ) (x : X) → At a x → Edge g a b → (y : X) × (Holds x y × At b y)) (up : (a : ℕ) (x y : X) → At a x → Holds x y → Edge g a (number y))
    (at_held : (x y : X) → Holds x y → At (number y) y)
  where
    -- ---- chains

    chain_down : (ms : List ℕ) (a : ℕ) (x : X) → At a x → IsChain g a ms → (ys : List X) × (IsChainBy Holds x ys × (length ys ≡ length ms))
    chain_down [] a x at h = ([], (tt, refl))
    chain_down (m ∷ ms) a x at h =
        let next = down a m x at h.0 in
        let rest = chain_down ms m next.0 next.1.1 h.1 in
        (next.0 ∷ rest.0, ((next.1.0, rest.1.0), ap suc rest.1.1))

    chain_up : (ys : List X) (a : ℕ) (x : X) → At a x → IsChainBy Holds x ys → IsChain g a (map number ys)
    chain_up [] a x at h = tt
    chain_up (y ∷ ys) a x at h = (up a x y at h.0, chain_up ys (number y) y (at_held x y h.0) h.1)

    -- ---- where they lead

    leads_down : (ms : List ℕ) (a b : ℕ) (x : X) → At a x → ChainLeads g a ms b → (y : X) × (At b y × ((ys : List X) × ChainLeadsBy Holds x ys y))
    leads_down [] a b x at h = (x, (subst (λ n. At n x) h at, ([], refl)))
    leads_down (m ∷ ms) a b x at h =
        let next = down a m x at h.0 in
        let rest = leads_down ms m b next.0 next.1.1 h.1 in
        (rest.0, (rest.1.0, (next.0 ∷ rest.1.1.0, (next.1.0, rest.1.1.1))))

    leads_up : (ys : List X) (x y : X) → At (number x) x → ChainLeadsBy Holds x ys y → ChainLeads g (number x) (map number ys) (number y)
    leads_up [] x y at h = ap number h
    leads_up (z ∷ zs) x y at h = (up (number x) x z at h.0, leads_up zs z y (at_held x z h.0) h.1)

    end_held : (ys : List X) (x y : X) → At (number x) x → ChainLeadsBy Holds x ys y → At (number y) y
    end_held [] x y at h = subst (λ z. At (number z) z) h at
    end_held (z ∷ zs) x y at h = end_held zs z y (at_held x z h.0) h.1

    -- what is reached has its number
    pub at_reached : (x y : X) → ReachesBy Holds x y → At (number y) y
    at_reached x y r = end_held r.rest r.next y (at_held x r.next r.linked.0) r.linked.1

    pub reaches_down : (a b : ℕ) (x y : X) → At a x → At b y → ReachesByEdges g a b → ReachesBy Holds x y
    reaches_down a b x y at at_end r =
        let first = down a r.next x at r.linked.0 in
        let rest = leads_down r.chain r.next b first.0 first.1.1 r.linked.1 in
        record {
          next = first.0;
          rest = rest.1.1.0;
          linked = (first.1.0, subst (λ z. ChainLeadsBy Holds first.0 rest.1.1.0 z) (one b rest.0 y rest.1.0 at_end) rest.1.1.1);
        }

    pub reaches_up : (a : ℕ) (x y : X) → At a x → ReachesBy Holds x y → ReachesByEdges g a (number y)
    reaches_up a x y at r = record {
      next = number r.next;
      chain = map number r.rest;
      linked = (up a x r.next at r.linked.0, leads_up r.rest r.next y (at_held x r.next r.linked.0) r.linked.1);
    }

    -- ---- longest chains

    pub longest_down : (a n : ℕ) (x : X) → At a x → IsLongestChain g a n → IsLongestBy Holds x n
    longest_down a n x at l =
        let own = chain_down l.rest a x at l.chain in
        record {
          rest = own.0;
          chain = own.1.0;
          counted = ap (λ k. k + 1) own.1.1 ∙ l.count;
          most = λ other chain. subst (λ k. k + 1 ≤ n) (length-map other number) (l.most (map number other) (chain_up other a x at chain));
        }

    pub longest_up : (a n : ℕ) (x : X) → At a x → IsLongestBy Holds x n → IsLongestChain g a n
    longest_up a n x at l = record {
      rest = map number l.rest;
      chain = chain_up l.rest a x at l.chain;
      count = ap (λ k. k + 1) (length-map l.rest number) ∙ l.counted;
      most = λ other chain. let own = chain_down other a x at chain in subst (λ k. k + 1 ≤ n) own.1.1 (l.most own.0 own.1.0);
    }

    -- where there is a longest chain, nothing is reached that reaches itself
    pub longest_ends : (a n : ℕ) (x y : X) → At a x → IsLongestChain g a n → ReachesBy Holds x y → ¬ (ReachesBy Holds y y)
    longest_ends a n x y at l r cycle =
        let there = reaches_up a x y at r in
        let leads : Leads g a (number y) = record { chain = there.next ∷ there.chain; linked = there.linked } in
        longest_no_cycle g a n l (number y, leads, reaches_up (number y) y y (at_reached x y r) cycle)
