use Rattle.std.proofs.Common.{◌≡◌, ◌++◌, length, reverse}
use Rattle.hir_methods.proofs.joining.backwards.Given as goal

abbrev pub invariant-loop-last : goal.invariant-loop-last
invariant-loop-last g l = l.turned ++ reverse l.left ≡ reverse l.fn.items

abbrev pub decreases-loop-last : goal.decreases-loop-last
decreases-loop-last g l = length l.left
