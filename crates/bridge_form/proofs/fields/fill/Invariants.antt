use Rattle.std.proofs.Common.{◌≡◌, None, length, replicate}
use Rattle.std.specs.BTreeMap.IterMut.{iter_mut_rest}
use Rattle.serde_json.specs.View.{members_view}
use Rattle.bridge_form.specs.Left.{slots_seen}
use Rattle.bridge_form.specs.inside.Filling.{slots_after}
use Rattle.bridge_form.proofs.fields.fill.Given as goal

abbrev pub invariant-loop-name : goal.invariant-loop-name
invariant-loop-name l =
    (goal.iterator-loop-name).can_next l.name-iterator
    × (goal.iterator-loop-name).is_finite l.name-iterator
    × (length l.slots.items ≡ length l.form)
    × (slots_after l.form (slots_seen l.slots.items) (members_view (iter_mut_rest l.name-iterator))
    ≡ slots_after l.form (replicate (length l.form) None) (members_view l.fn.members.entries))
