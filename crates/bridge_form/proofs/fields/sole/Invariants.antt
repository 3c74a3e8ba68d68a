use Rattle.std.proofs.Common.{◌≡◌, drop}
use Rattle.serde_json.specs.View.{view}
use Rattle.bridge_form.specs.Form.{live, sole}
use Rattle.bridge_form.specs.Left.{IsLeft}
use Rattle.bridge_form.proofs.SoleLemmas.{after}
use Rattle.bridge_form.proofs.fields.sole.Given as goal

abbrev pub invariant-loop-number : goal.invariant-loop-number
invariant-loop-number l =
    IsLeft l.left (drop l._number l.form) (view l.fn.value)
    × (sole (live l.form (view l.fn.value)) ≡ sole (after l.lone (live (drop l._number l.form) (view l.fn.value))))
