use Rattle.std.proofs.Common.{◌≡◌}
use Rattle.serde_json.specs.View.{items_view}
use Rattle.std.specs.Vec.Iter.{into_iter_items}
use Rattle.bridge_form.specs.Reading.{each_of}
use Rattle.bridge_read_parts.proofs.ListLemmas.{each_after}
use Rattle.bridge_read_parts.proofs.reading.list_of.Given as goal

abbrev pub invariant-loop-entry : goal.invariant-loop-entry
invariant-loop-entry g l = each_after g.T.FromForm.form l.list (items_view (into_iter_items l.entry-iterator)) ≡ each_of g.T.FromForm.form 0 (items_view (into_iter_items l.initial.entry-iterator))
