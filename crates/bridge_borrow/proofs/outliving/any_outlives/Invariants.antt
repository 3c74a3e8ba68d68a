use Rattle.std.proofs.Common.{◌≡◌, false, take}
use Rattle.std.specs.List.{list_any}
use Rattle.hir_borrowing_params.specs.Edges.{is_in}
use Rattle.hir_skeleton.specs.Leaves.{number_passes}
use Rattle.bridge_borrow.proofs.outliving.any_outlives.Given as goal

abbrev pub invariant-loop-lifetime : goal.invariant-loop-lifetime
invariant-loop-lifetime l = list_any (number_passes (is_in l.longer)) (take l.lifetime-index l.lifetimes) ≡ false
