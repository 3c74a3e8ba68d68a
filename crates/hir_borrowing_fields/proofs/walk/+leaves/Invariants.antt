use Rattle.std.proofs.Common.{◌+◌, ◌*◌, map, take, Some}
use Rattle.hir_borrowing_fields.specs.inside.Places.{steps_at}
use Rattle.hir_borrowing_fields.specs.inside.Walks.{GoesOn, behind, leaves_from, named_field, walked_type}
use Rattle.hir_borrowing_fields.proofs.walk.+leaves.Given as goal

abbrev pub decreases-add_part : goal.decreases-add_part
decreases-add_part l = 5 * l.levels + 3

abbrev pub decreases-add_struct : goal.decreases-add_struct
decreases-add_struct l = 5 * l.levels + 2

abbrev pub decreases-add_struct_given : goal.decreases-add_struct_given
decreases-add_struct_given l = 5 * l.levels + 1

abbrev pub decreases-add_fields_of : goal.decreases-add_fields_of
decreases-add_fields_of l = 5 * l.levels + 5

abbrev pub decreases-add_fields : goal.decreases-add_fields
decreases-add_fields l = 5 * l.levels + 4

abbrev pub invariant-add_fields-loop-number : goal.invariant-add_fields-loop-number
invariant-add_fields-loop-number l =
    GoesOn l.tcx.definitions l.initial.walk l.walk (map (behind (steps_at l.initial.walk.found.places (Some l.at))) (leaves_from 0 (walked_type l.tcx.definitions l.levels l.args) (map named_field (take l.number l.fields))))
