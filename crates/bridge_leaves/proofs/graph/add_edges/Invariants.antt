use Rattle.std.proofs.Common.{◌≡◌, ◌++◌, ◌∷◌, [], List, ℕ, length, map, take}
use Rattle.bridge_leaves.specs.inside.Counting.{structs_among}
use Rattle.hir_skeleton.specs.Lowered.{field_skeleton}
use Rattle.bridge_leaves.proofs.graph.add_edges.Given as goal

abbrev pub invariant-loop-field : goal.invariant-loop-field
invariant-loop-field l =
    (length l.graph ≡ length l.fn.graph)
    × ((before after : List (List ℕ)) → l.fn.graph ≡ before ++ [] ∷ after → length before ≡ l.from
    → l.graph ≡ before ++ structs_among (length l.fn.graph) (map (λ f. field_skeleton f.ty) (take l.field-index l.fields)) ∷ after)
