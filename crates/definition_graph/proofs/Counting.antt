-- Sums over the order of a graph's nodes.
use Rattle.std.proofs.Common.{◌≡◌, ℕ, ◌+◌, ◌<◌, ◌≤◌, suc, List, [], ◌∷◌, length, get_or, set, map, sum, refl, sym, arith, get_or-set_other, length-set}
use Rattle.std.specs.Prelude.{sum_by}
use Rattle.std.proofs.lemmas.List.{length-map, get_or-map}
use Rattle.std.proofs.lemmas.List.Sums.{sum_by-set, sum_by-cons}
use Rattle.definition_graph.specs.Reaching.{successors, edge_count}
use Rattle.definition_graph.specs.Surveying.{IsReverseTopological}

-- places that differ have no more than the whole list
pub sum_apart :
    (f : ℕ → ℕ) (ws as' : List ℕ) → ((k : ℕ) → k < length as' → f (get_or as' k 0) ≤ get_or ws (get_or as' k 0) 0)
    → ((k : ℕ) → k < length as' → get_or as' k 0 < length ws)
    → ((j k : ℕ) → j < k → k < length as' → get_or as' j 0 ≡ get_or as' k 0 → ⊥) → sum_by f as' ≤ sum ws
sum_apart f ws [] most within apart = omega arith
sum_apart f ws (a ∷ rest) most within apart =
    let here = sum_by-set (λ (x : ℕ). x) ws a 0 0 (within 0 (omega arith)) in
    let others =
    sum_apart f (set ws a 0) rest
    (λ k h.
    let same : get_or (set ws a 0) (get_or rest k 0) 0 ≡ get_or ws (get_or rest k 0) 0 =
    get_or-set_other ws a (get_or rest k 0) 0 0 (λ e. apart 0 (suc k) (omega arith) (omega (arith, h)) (sym e)) in
    omega (arith, same, most (suc k) (omega (arith, h))))
    (λ k h. omega (arith, within (suc k) (omega (arith, h)), length-set ws a 0))
    (λ j k jk h e. apart (suc j) (suc k) (omega (arith, jk)) (omega (arith, h)) e) in
    omega (arith, here, others, sum_by-cons f a rest, most 0 (omega arith))

sum_more : (g : List (List ℕ)) → sum (map (λ (row : List ℕ). length row + 1) g) ≡ edge_count g + length g
sum_more [] = refl
sum_more (row ∷ g) =
    omega (
      arith,
      sum_by-cons (λ (x : ℕ). x) (length row + 1) (map (λ (row : List ℕ). length row + 1) g),
      sum_by-cons (λ (row : List ℕ). length row) row g,
      sum_more g,
    )

-- the order's nodes with their edges are no more than the graph's
pub order_sum :
    (g : List (List ℕ)) (order : List ℕ) → IsReverseTopological g order
    → sum_by (λ (a : ℕ). length (successors g a) + 1) order ≤ length g + edge_count g
order_sum g order sorted =
    let weights : List ℕ = map (λ (row : List ℕ). length row + 1) g in
    let all =
    sum_apart (λ (a : ℕ). length (successors g a) + 1) weights order
    (λ k h.
    let none : List ℕ = [] in
    omega (arith, get_or-map (λ (row : List ℕ). length row + 1) g (get_or order k 0) none 0 (sorted.within k h)))
    (λ k h. omega (arith, sorted.within k h, length-map g (λ (row : List ℕ). length row + 1))) sorted.once in
    omega (arith, all, sum_more g)
