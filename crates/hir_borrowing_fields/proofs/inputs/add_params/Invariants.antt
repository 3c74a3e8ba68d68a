use Rattle.std.proofs.Common.{[], map, take}
use Rattle.hir_borrowing_fields.specs.inside.Walks.{GoesOn, behind, leaves_from, named_param, walked_type}
use Rattle.hir_borrowing_fields.proofs.inputs.add_params.Given as goal

abbrev pub invariant-loop-number : goal.invariant-loop-number
invariant-loop-number l = GoesOn l.tcx.definitions l.initial.walk l.walk (map (behind []) (leaves_from l.first (walked_type l.tcx.definitions 256 l.args) (map named_param (take l.number l.params))))
