use Rattle.std.proofs.Common.{◌+◌, drop, map, subst}
use Rattle.bridge_decl.specs.declared.structs.Field.{Field}
use Rattle.hir_number.specs.inside.Runs.{fields_run}
use Rattle.hir_number.specs.inside.Threads.{type_run}
use Rattle.hir_number.proofs.RunLemmas.{SoFar, goes_on, next_of}
use Rattle.hir_number.proofs.fields.number_each_field.Goals as goal

pub loop-field-preserved : goal.loop-field-preserved
loop-field-preserved g c = λ names s is stands.
    let number = λ (field : Field). type_run g.L.LowerLifetime.phase names field.ty in
    let was = g.L.StandsFor.stands c.loop-field.lowerer in
    let whole = fields_run g.L.LowerLifetime.phase names c.args.fields.now s in
    rw c.in_ok-push.ensures.ok
    (goes_on was (g.L.StandsFor.stands c.number_type.new.lowerer) whole c.loop-field.numbered (number c.field-item.result) (map number (drop (c.loop-field.field-index + 1) c.args.fields.now)) c.in_ok-number_type.field-0
    (subst (SoFar was whole c.loop-field.numbered) (next_of number c.args.fields.now c.loop-field.field-index c.field-item.result c.loop-field-test.true c.field-item.is) (c.loop-field.invariant names s is stands))
    (λ t at. c.in_ok-number_type.ensures names t is at))
