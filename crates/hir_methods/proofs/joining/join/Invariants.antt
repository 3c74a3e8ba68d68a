use Rattle.std.proofs.Common.{◌≡◌, ◌++◌, length, reverse}
use Rattle.hir_methods.specs.Joining.{completed}
use Rattle.hir_methods.proofs.joining.join.Given as goal

abbrev pub invariant-loop-part : goal.invariant-loop-part
invariant-loop-part g l =
    l.joined ++ completed g.P.Lacking.whole (reverse l.parts) (reverse l.lacks) ≡ completed g.P.Lacking.whole l.fn.parts l.fn.lacks

abbrev pub decreases-loop-part : goal.decreases-loop-part
decreases-loop-part g l = length l.parts
