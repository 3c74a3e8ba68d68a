use Rattle.std.proofs.Common.{◌≡◌, take}
use Rattle.hir_lower.proofs.placing.path_copy.Given as goal

abbrev pub invariant-loop-segment : goal.invariant-loop-segment
invariant-loop-segment l = l.copy ≡ take l.segment-index l.path
