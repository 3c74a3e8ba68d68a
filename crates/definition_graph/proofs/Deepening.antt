-- The depth of a node, from those of the nodes that it names.
use Rattle.std.proofs.Common.{◌≡◌, ℕ, ◌+◌, ◌<◌, ◌≤◌, inl, inr, List, [], ◌∷◌, length, get_or, refl, sym, ◌∙◌, subst, arith}
use Rattle.std.specs.Prelude.{min, max, Some, None}
use Rattle.std.proofs.lemmas.List.{get_or_default}
use Rattle.std.proofs.lemmas.List.Elements.{Contains-get_or}
use Rattle.std.proofs.lemmas.Bool.{cases_lt}
use Rattle.definition_graph.specs.Reaching.{Edge, successors}
use Rattle.definition_graph.specs.Surveying.{IsChain, IsDepth}
use Rattle.definition_graph.proofs.Leading.{leads_from}

-- a longest chain from a, by way of the first p nodes that it names, has `nodes` of them, which `most` counts up to 257
pub record IsDeepest (g : List (List ℕ)) (a p most : ℕ) : Type 0 where
  pub nodes : ℕ
  pub rest : List ℕ
  pub chain : IsChain g a rest
  pub count : length rest + 1 ≡ nodes
  pub longest : (k : ℕ) (other : List ℕ) → k < p → IsChain g (get_or (successors g a) k 0) other → length other + 2 ≤ nodes
  pub capped : most ≡ min nodes 257

-- a node alone
pub deepest_none : (g : List (List ℕ)) (a : ℕ) → IsDeepest g a 0 1
deepest_none g a =
    record {
      nodes = 1;
      rest = [];
      chain = tt;
      count = refl;
      longest = λ k other h. absurd (omega (arith, h));
      capped = refl;
    }

-- one more of the nodes that a names
pub deepest_more :
    (g : List (List ℕ)) (a p most depth : ℕ) → p < length (successors g a) → IsDeepest g a p most
    → IsDepth g (get_or (successors g a) p 0) (Some depth) → IsDeepest g a (p + 1) (max most (min (depth + 1) 257))
deepest_more g a p most depth within deep (n, longest, capped) =
    let b : ℕ = get_or (successors g a) p 0 in
    let edge : Edge g a b = Contains-get_or (successors g a) p 0 within in
    let now : (m : ℕ) → n + 1 ≤ m → deep.nodes ≤ m → (k : ℕ) (other : List ℕ) → k < p + 1 → IsChain g (get_or (successors g a) k 0) other → length other + 2 ≤ m =
    λ m le le' k other h chain.
    elim (cases_lt k p) [
      | inl lt ↦ omega (arith, deep.longest k other lt chain, le')
      | inr ge ↦
          let e : k ≡ p = omega arith in
          omega (arith, longest.most other (subst (λ i. IsChain g (get_or (successors g a) i 0) other) e chain), le)
    ] in
    elim (cases_lt deep.nodes (n + 1)) [
      | inl lt ↦
          record {
            nodes = n + 1;
            rest = b ∷ longest.rest;
            chain = (edge, longest.chain);
            count = omega (arith, longest.count);
            longest = now (n + 1) (omega arith) (omega arith);
            capped = omega (arith, capped, deep.capped, lt);
          }
      | inr ge ↦
          record {
            nodes = deep.nodes;
            rest = deep.rest;
            chain = deep.chain;
            count = deep.count;
            longest = now deep.nodes ge (omega arith);
            capped = omega (arith, capped, deep.capped, ge);
          }
    ]

-- all of them
pub deepest_all :
    (g : List (List ℕ)) (a p most : ℕ) → length (successors g a) ≤ p → IsDeepest g a p most → IsDepth g a (Some most)
deepest_all g a p most over deep = (
  deep.nodes,
  record {
    rest = deep.rest;
    chain = deep.chain;
    count = deep.count;
    most = bounded g a p most over deep;
  },
  deep.capped,
)
  where
    bounded :
        (g : List (List ℕ)) (a p most : ℕ) → length (successors g a) ≤ p → (deep : IsDeepest g a p most) → (other : List ℕ)
        → IsChain g a other → length other + 1 ≤ deep.nodes
    bounded g a p most over deep [] chain = omega (arith, deep.count)
    bounded g a p most over deep (m ∷ rest) chain =
        let same : get_or (successors g a) chain.0.0 0 ≡ m = get_or_default (successors g a) chain.0.0 0 m chain.0.1 ∙ chain.0.2 in
        omega (arith, deep.longest chain.0.0 rest (omega (arith, chain.0.1, over)) (subst (λ x. IsChain g x rest) (sym same) chain.1))

-- a node that names one with no depth has none
pub deepest_cycle :
    (g : List (List ℕ)) (a b : ℕ) → Edge g a b → IsDepth g b None → IsDepth g a None
deepest_cycle g a b edge (r, leads, cycle) = (r, leads_from g a b r edge leads, cycle)
