use Rattle.std.proofs.Common.{◌≡◌, ◌++◌, ◌∷◌, ◌+◌, ◌-◌, ◌<◌, [], List, ℕ, suc, arith, length, replicate, take, ap, ◌∙◌}
use Rattle.bridge_leaves.specs.inside.Counting.{graph_of, structs_among}
use Rattle.bridge_leaves.proofs.RowLemmas.{filled, graph_next, rows_at}
use Rattle.hir_skeleton.specs.Lowered.{input_fields}
use Rattle.bridge_leaves.proofs.graph.struct_graph.Goals as goal

pub loop-number-preserved : goal.loop-number-preserved
loop-number-preserved c =
    let structs = c.args.structs.now in
    let n : ℕ = length structs in
    let i : ℕ = c.loop-number.number in
    let here : i < n = c.loop-number-test.true in
    let so_far : List (List ℕ) = graph_of n (take i structs) in
    let after : List (List ℕ) = replicate (n - (i + 1)) [] in
    let left : n - i ≡ suc (n - (i + 1)) = omega (arith, here) in (
      c.in_ok-add_edges_of.ensures.each ∙ c.loop-number.invariant.0,
      c.in_ok-add_edges_of.ensures.edges so_far after (c.loop-number.invariant.1 ∙ ap (λ k. so_far ++ replicate k []) left) (rows_at n structs i here)
          ∙ ap (λ k. so_far ++ structs_among k (input_fields c.index-structs-number.result) ∷ after) c.loop-number.invariant.0
          ∙ filled so_far (structs_among n (input_fields c.index-structs-number.result)) after
          ∙ ap (λ rs. rs ++ after) (graph_next n structs i c.index-structs-number.result here c.index-structs-number.is),
    )
