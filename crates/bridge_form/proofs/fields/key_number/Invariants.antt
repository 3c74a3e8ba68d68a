use Rattle.std.proofs.Common.{◌≡◌, take, None}
use Rattle.bridge_form.specs.inside.Filling.{key_number}
use Rattle.bridge_form.proofs.fields.key_number.Given as goal

abbrev pub invariant-loop-number : goal.invariant-loop-number
invariant-loop-number l = key_number (take l.number l.keys) l.name ≡ None
