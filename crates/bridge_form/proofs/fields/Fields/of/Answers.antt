use Rattle.std.proofs.Common.{refl}
use Rattle.serde_json.specs.View.{view}
use Rattle.bridge_form.specs.Left.{IsLeft, slots_seen}
use Rattle.bridge_form.proofs.FieldLemmas.{opened}
use Rattle.bridge_form.proofs.fields.Fields.of.Goals as goal

pub returns : goal.returns
unfolding IsLeft
returns c =
    let h = opened c.args.keys.now c.in_ok-members.field-0.entries c.requires c.in_ok-slots.ensures.ordered (view c.args.value) (slots_seen c.in_ok-slots.slots.items) c.in_ok-members.ensures c.in_ok-slots.ensures.filled in
    (h.0, (refl, h.1))
