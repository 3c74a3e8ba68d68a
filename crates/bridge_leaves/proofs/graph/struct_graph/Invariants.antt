use Rattle.std.proofs.Common.{◌≡◌, ◌++◌, ◌-◌, [], length, replicate, take}
use Rattle.bridge_leaves.specs.inside.Counting.{graph_of}
use Rattle.bridge_leaves.proofs.graph.struct_graph.Given as goal

abbrev pub invariant-loop-number : goal.invariant-loop-number
invariant-loop-number l =
    (length l.graph ≡ length l.structs)
    × (l.graph ≡ graph_of (length l.structs) (take l.number l.structs) ++ replicate (length l.structs - l.number) [])
