use Rattle.std.proofs.Common.{◌≡◌, take}
use Rattle.bridge_read.proofs.modules.path_in.Given as goal

abbrev pub invariant-loop-segment : goal.invariant-loop-segment
invariant-loop-segment l = l.path ≡ take l.segment-index l.parent
