use Rattle.std.proofs.Common.{◌≡◌, take}
use Rattle.hir_skeleton.specs.Leaves.{each_once}
use Rattle.hir_borrowing_fields.proofs.carried.each_once_of_few.Given as goal

abbrev pub invariant-loop-lifetime : goal.invariant-loop-lifetime
invariant-loop-lifetime l = l.once ≡ each_once (take l.lifetime-index l.lifetime-items)
