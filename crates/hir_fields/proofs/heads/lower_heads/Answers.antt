use Rattle.std.proofs.Common.{◌≡◌, Some, subst}
use Rattle.hir_heads.specs.Told.{MadeUnlessTold}
use Rattle.hir_reports.specs.Store.{added}
use Rattle.hir_fields.proofs.SoFar.{ends_made, given_made, goes_on_at}
use Rattle.hir_fields.specs.Heads.{field_head_errors, head_errors}
use Rattle.hir_fields.specs.inside.Heads.{field_head, head_form}
use Rattle.hir_fields.proofs.heads.lower_heads.Goals as goal

pub loop-field-preserved : goal.loop-field-preserved
loop-field-preserved g c =
    let backend = g.V.AttributeValidator.meaning c.args.validator.now in
    let field = c.field-item.result in
    goes_on_at (field_head_errors backend c.args.context) (λ f. Some (field_head backend f)) c.args.fields.now c.loop-field.field-index field c.args.errors.now c.loop-field.errors c.lower_head.new.errors
    c.loop-field.made c.in_ok-made.made c.in_ok-head.head c.loop-field.invariant c.loop-field-test.true c.field-item.is
    (subst (λ s. c.lower_head.new.errors ≡ added c.loop-field.errors (head_errors backend c.args.context s field.name field.docs field.attrs)) c.empty-start.ensures c.in_ok-head.ensures.told)
    (given_made (field_head_errors backend c.args.context field) (field_head backend field) c.in_ok-head.head
    (subst (λ s. MadeUnlessTold (head_errors backend c.args.context s field.name field.docs field.attrs) (head_form backend s field.name field.docs field.attrs) c.in_ok-head.head) c.empty-start.ensures c.in_ok-head.ensures.made))
    c.in_ok-head.ensures.kept c.in_ok-made.ensures

pub returns-clause-made : goal.returns-clause-made
returns-clause-made g c =
    let backend = g.V.AttributeValidator.meaning c.args.validator.now in
    ends_made (field_head_errors backend c.args.context) (field_head backend) c.args.fields.now c.loop-field.field-index c.args.errors.now c.loop-field.errors c.loop-field.made c.loop-field.invariant
    c.loop-field-test.false
