use Rattle.hir_reports.proofs.StoreLaws.{added_step}
use Rattle.hir_validation.specs.Structs.{field_errors}
use Rattle.hir_validation.proofs.validation.Validation.tell_fields.Goals as goal

pub loop-field-preserved : goal.loop-field-preserved
loop-field-preserved c =
    let it = c.args.self.now in
    added_step (field_errors it.callbacks_must_fail it.tcx.now.definitions) c.args.errors.now c.loop-field.errors _ c.args.fields.now c.loop-field.field-index
    c.field-item.result c.loop-field-test.true c.loop-field.invariant (rw (← c.field-item.is) c.in_ok-tell_field.ensures)
