-- What follows from the components of a graph.
use Rattle.std.proofs.Common.{◌≡◌, ℕ, ◌<◌, ◌≤◌, inl, inr, List, [], ◌∷◌, length, get_or, ap, arith}
use Rattle.std.proofs.lemmas.List.{get_or_past}
use Rattle.std.proofs.lemmas.Bool.{cases_lt}
use Rattle.definition_graph.specs.Reaching.{Edge, ChainLeads, ReachesByEdges}
use Rattle.definition_graph.specs.inside.Components.{AreComponents}
use Rattle.definition_graph.specs.Surveying.{IsReverseTopological}

module _ (g : List (List ℕ)) (number order : List ℕ) (are : AreComponents g number order) where
  chain_falls : (a b : ℕ) (chain : List ℕ) → ChainLeads g a chain b → get_or number b 0 ≤ get_or number a 0
  chain_falls a b [] e = omega (arith, ap (λ n. get_or number n 0) e)
  chain_falls a b (m ∷ rest) h = omega (arith, are.falls a m h.0, chain_falls m b rest h.1)

  in_graph : (a b : ℕ) → Edge g a b → a < length g
  in_graph a b edge =
      elim (cases_lt a (length g)) [
        | inl lt ↦ lt
        | inr ge ↦ absurd (omega (arith, edge.1, ap length (get_or_past g a [] ge)))
      ]

  -- an edge within a component closes a cycle
  pub cycle_from_edge : (a b : ℕ) → Edge g a b → b < length g → get_or number b 0 ≡ get_or number a 0 → ReachesByEdges g a a
  cycle_from_edge a b edge within same =
      let back = are.both_ways b a within (in_graph a b edge) same in
      record { next = b; chain = back.chain; linked = (edge, back.linked) }

  -- and each cycle begins with one
  pub edge_from_cycle : (a : ℕ) → ReachesByEdges g a a → (b : ℕ) × Edge g a b × (get_or number b 0 ≡ get_or number a 0)
  edge_from_cycle a cycle =
      (cycle.next, cycle.linked.0, omega (arith, are.falls a cycle.next cycle.linked.0, chain_falls cycle.next a cycle.chain cycle.linked.1))

  pub components_order : IsReverseTopological g order
  components_order =
      record {
        listed = are.listed;
        within = are.within;
        once = are.once;
        after = λ k b h none edge.
            let a : ℕ = get_or order k 0 in
            let at = are.listed b (are.sound a b edge) in
            elim (cases_lt at.0 k) [
              | inl lt ↦ (at.0, lt, at.2)
              | inr ge ↦
                  let up = are.ordered k at.0 ge at.1 in
                  absurd (none (cycle_from_edge a b edge (are.sound a b edge)
                  (omega (arith, up, are.falls a b edge, ap (λ n. get_or number n 0) at.2))))
            ];
      }
