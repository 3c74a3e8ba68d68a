use Rattle.std.proofs.Common.{◌∷◌, [], ◌++◌, map, take}
use Rattle.hir_mentions.specs.Mentions.{where_any}
use Rattle.hir_skeleton.specs.Inputs.{param_skeleton}
use Rattle.hir_skeleton.specs.Lowered.{receiver_skeleton}
use Rattle.bridge_leaves.specs.inside.Totals.{CountsInputs}
use Rattle.bridge_leaves.proofs.counts.leaf_count.Given as goal

abbrev pub invariant-loop-param : goal.invariant-loop-param
invariant-loop-param l =
    CountsInputs l.tcx.definitions (where_any (λ r. receiver_skeleton r.ty ∷ []) l.method.param_self ++ map (λ p. param_skeleton p.ty) (take l.param-index l.method.params)) l.count
