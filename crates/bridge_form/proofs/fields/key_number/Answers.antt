use Rattle.std.proofs.Common.{sym}
use Rattle.bridge_form.proofs.FieldLemmas.{found_key_here, no_key_yet}
use Rattle.bridge_form.proofs.fields.key_number.Goals as goal

pub returns-then-is_same-clause-found : goal.returns-then-is_same-clause-found
returns-then-is_same-clause-found c = sym (found_key_here c.args.keys.now c.loop-number.number _ c.text.result.now c.args.name.now c.loop-number-test.true c.loop-number.invariant c.text.ensures (sym c.if-is_same.ensures))

pub loop-number-preserved : goal.loop-number-preserved
loop-number-preserved c = no_key_yet c.args.keys.now c.loop-number.number _ c.text.result.now c.args.name.now c.loop-number-test.true c.loop-number.invariant c.text.ensures (sym c.if-is_same.ensures)
