use Rattle.std.proofs.Common.{◌≡◌, ◌+◌, ◌*◌}
use Rattle.serde_json.specs.View.{items_view}
use Rattle.std.specs.Vec.Iter.{into_iter_items}
use Rattle.bridge_form.specs.Reading.{each_of}
use Rattle.bridge_read_parts.specs.forms.Types.{type_within}
use Rattle.bridge_read_parts.proofs.ListLemmas.{each_after}
use Rattle.bridge_read_parts.proofs.types.+types.Given as goal

abbrev pub decreases-type_within : goal.decreases-type_within
decreases-type_within l = 8 * l.levels

abbrev pub decreases-boxed : goal.decreases-boxed
decreases-boxed l = 8 * l.levels + 1

abbrev pub decreases-type_list : goal.decreases-type_list
decreases-type_list l = 8 * l.levels + 1

abbrev pub decreases-needed_type : goal.decreases-needed_type
decreases-needed_type l = 8 * l.levels + 2

abbrev pub decreases-callback : goal.decreases-callback
decreases-callback l = 8 * l.levels + 3

abbrev pub decreases-reference_type : goal.decreases-reference_type
decreases-reference_type l = 8 * l.levels + 3

abbrev pub decreases-result_type : goal.decreases-result_type
decreases-result_type l = 8 * l.levels + 3

abbrev pub decreases-custom_slice : goal.decreases-custom_slice
decreases-custom_slice l = 8 * l.levels + 3

abbrev pub decreases-type_under : goal.decreases-type_under
decreases-type_under l = 8 * l.levels + 4

abbrev pub decreases-types_under : goal.decreases-types_under
decreases-types_under l = 8 * l.levels + 2

abbrev pub decreases-type_or_unit : goal.decreases-type_or_unit
decreases-type_or_unit l = 8 * l.levels + 2

abbrev pub invariant-type_list-loop-entry : goal.invariant-type_list-loop-entry
invariant-type_list-loop-entry l = each_after (type_within l.levels).read l.list (items_view (into_iter_items l.entry-iterator)) ≡ each_of (type_within l.levels).read 0 (items_view (into_iter_items l.initial.entry-iterator))
