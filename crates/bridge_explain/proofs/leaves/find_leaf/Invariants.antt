use Rattle.std.proofs.Common.{◌≡◌, drop}
use Rattle.bridge_explain.specs.Explained.{leaf_called}
use Rattle.bridge_explain.proofs.leaves.find_leaf.Given as goal

abbrev pub invariant-loop-number : goal.invariant-loop-number
invariant-loop-number l = leaf_called l.word l.leaves ≡ leaf_called l.word (drop l.number l.leaves)
