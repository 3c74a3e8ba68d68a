use Rattle.std.proofs.Common.{◌≡◌, ◌+◌, ◌*◌}
use Rattle.serde_json.specs.View.{items_view}
use Rattle.std.specs.Vec.Iter.{into_iter_items}
use Rattle.bridge_form.specs.Reading.{each_of}
use Rattle.bridge_read_parts.specs.forms.Attrs.{condition_within}
use Rattle.bridge_read_parts.proofs.ListLemmas.{each_after}
use Rattle.bridge_read_parts.proofs.attrs.+conditions.Given as goal

abbrev pub decreases-condition_within : goal.decreases-condition_within
decreases-condition_within l = 4 * l.levels

abbrev pub decreases-condition_list : goal.decreases-condition_list
decreases-condition_list l = 4 * l.levels + 1

abbrev pub decreases-condition_under : goal.decreases-condition_under
decreases-condition_under l = 4 * l.levels + 2

abbrev pub invariant-condition_list-loop-entry : goal.invariant-condition_list-loop-entry
invariant-condition_list-loop-entry l = each_after (condition_within l.levels).read l.list (items_view (into_iter_items l.entry-iterator)) ≡ each_of (condition_within l.levels).read 0 (items_view (into_iter_items l.initial.entry-iterator))
