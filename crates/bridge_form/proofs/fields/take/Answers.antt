use Rattle.bridge_form.proofs.FieldLemmas.{seen_past}
use Rattle.bridge_form.proofs.fields.take.Goals as goal

pub returns-clause-left : goal.returns-clause-left
returns-clause-left c = seen_past c.args.slots.now.items c.args.number c.take.new.self
