use Rattle.std.proofs.Common.{◌∙◌, ap, Some, option_map, arith}
use Rattle.serde_json.specs.View.{view}
use Rattle.bridge_form.specs.Left.{IsLeft, slots_seen}
use Rattle.bridge_form.specs.Reading.{under}
use Rattle.bridge_form.specs.declared.keys.Key.TheVariants as key
use Rattle.bridge_form.proofs.FieldLemmas.{next_left, next_seen, no_slot_left, none_left, pair_is}
use Rattle.bridge_form.proofs.fields.Fields.next.Goals as goal
use Rattle.bridge_form.proofs.fields.Fields.next.Goals.{else-number-self-via-then-number-self+else-number-len, else-number-self-via-else-number-self}

pub returns-then-number-len-clause-left : goal.returns-then-number-len-clause-left
unfolding IsLeft
returns-then-number-len-clause-left c name keys d left =
    let it = c.args.self.now in
    let seen = next_seen it.keys.now it.read name key.Root keys d (slots_seen it.slots.items) left.0 left.1 (option_map view c.take.result) c.take.ensures.taken in
    let rest = next_left it.keys.now it.read name key.Root keys d (slots_seen it.slots.items) left.0 left.1 in
    (ap Some (pair_is seen.0 seen.1), (rest.0, c.take.ensures.left ∙ rest.1))

pub returns-clause-left : goal.returns-clause-left
unfolding IsLeft
returns-clause-left c name keys d left =
    let it = c.args.self.now in
    elim c.else-number-self.branch [
      | else-number-self-via-then-number-self+else-number-len w ↦ absurd (no_slot_left it.slots.items it.read (under name d) _ (λ lt. omega (arith, lt, w.if-number-len.false, w.len.ensures, it.slots.ok.0)) left.1)
      | else-number-self-via-else-number-self w ↦ absurd (none_left it.keys.now it.read name keys (λ lt. omega (arith, lt, w.if-number-self.false)) left.0)
    ]
