use Rattle.std.proofs.Common.{◌≡◌, ◌+◌, ◌*◌, ◌||◌, ℕ, take}
use Rattle.std.specs.List.{list_any}
use Rattle.hir_borrowing_params.specs.Edges.{is_in}
use Rattle.hir_borrowing_params.specs.Slices.{field_slices}
use Rattle.hir_borrowing_params.specs.inside.Searching.{AreKnown, is_number, slice_passes}
use Rattle.hir_borrowing_params.proofs.searching.+slices.Given as goal

abbrev pub decreases-add_fields : goal.decreases-add_fields
decreases-add_fields l = 5 * l.levels + 4

abbrev pub decreases-add_slices : goal.decreases-add_slices
decreases-add_slices l = 5 * l.levels + 3

abbrev pub decreases-add_struct : goal.decreases-add_struct
decreases-add_struct l = 5 * l.levels + 2

abbrev pub decreases-know_struct : goal.decreases-know_struct
decreases-know_struct l = 5 * l.levels + 1

abbrev pub decreases-slices_of_struct : goal.decreases-slices_of_struct
decreases-slices_of_struct l = 5 * l.levels

abbrev pub invariant-add_fields-loop-field : goal.invariant-add_fields-loop-field
invariant-add_fields-loop-field l = record {
  known : AreKnown l.tcx.definitions l.known;
  found : (d : ℕ) → is_in l.set d ≡ (is_in l.initial.set d || list_any (λ field. slice_passes l.tcx.definitions (is_number d) (field_slices field.ty)) (take l.field-index l.fields));
}
