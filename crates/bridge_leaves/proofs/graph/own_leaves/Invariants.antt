use Rattle.std.proofs.Common.{◌≡◌, map, take}
use Rattle.bridge_leaves.specs.inside.Counting.{own_leaves}
use Rattle.hir_skeleton.specs.Lowered.{field_skeleton}
use Rattle.bridge_leaves.proofs.graph.own_leaves.Given as goal

abbrev pub invariant-loop-field : goal.invariant-loop-field
invariant-loop-field l = l.count ≡ own_leaves (map (λ f. field_skeleton f.ty) (take l.field-index l.fields))
