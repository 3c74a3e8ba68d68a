use Rattle.std.proofs.Common.{◌≡◌, None, length, replicate}
use Rattle.bridge_form.specs.Left.{slots_seen}
use Rattle.bridge_form.proofs.fields.empty_slots.Given as goal

abbrev pub invariant-loop-number : goal.invariant-loop-number
invariant-loop-number l = (slots_seen l.slots.items ≡ replicate l._number None) × (length l.slots.items ≡ l._number)
