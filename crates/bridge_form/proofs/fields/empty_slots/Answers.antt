use Rattle.std.proofs.Common.{None, refl, arith}
use Rattle.bridge_form.proofs.FieldLemmas.{one_empty_more}
use Rattle.bridge_form.proofs.fields.empty_slots.Goals as goal

pub loop-number-preserved : goal.loop-number-preserved
loop-number-preserved c = (
  rw c.in_ok-push.ensures.items (one_empty_more c.loop-number.slots.items None c.loop-number._number c.loop-number.invariant.0 refl),
  omega (arith, c.loop-number.invariant.1, c.in_ok-push.ensures.len, c.push.new.self.ok.0, c.loop-number.slots.ok.0),
)
