use Rattle.std.proofs.Common.{◌∙◌, ap, slice_set}
use Rattle.bridge_form.specs.Left.{slots_seen}
use Rattle.bridge_form.proofs.FieldLemmas.{seen_set}
use Rattle.bridge_form.proofs.fields.put.Goals as goal

pub returns-clause-put : goal.returns-clause-put
returns-clause-put c =
    seen_set c.args.slots.now c.args.number c.unless_null.result ∙ ap (λ x. slice_set (slots_seen c.args.slots.now) c.args.number x) c.unless_null.ensures
