use Rattle.std.proofs.Common.{◌≡◌, take}
use Rattle.bridge_leaves.specs.inside.Counting.{all_own}
use Rattle.bridge_leaves.proofs.graph.all_own_leaves.Given as goal

abbrev pub invariant-loop-def : goal.invariant-loop-def
invariant-loop-def l = l.counts.items ≡ all_own (take l.def-index l.structs)
