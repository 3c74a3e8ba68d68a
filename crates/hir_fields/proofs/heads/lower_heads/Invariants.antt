use Rattle.std.proofs.Common.{Some}
use Rattle.hir_fields.proofs.SoFar.{SoFar}
use Rattle.hir_fields.specs.Heads.{field_head_errors}
use Rattle.hir_fields.specs.inside.Heads.{field_head}
use Rattle.hir_fields.proofs.heads.lower_heads.Given as goal

abbrev pub invariant-loop-field : goal.invariant-loop-field
invariant-loop-field g l =
    let backend = g.V.AttributeValidator.meaning l.validator in
    SoFar (field_head_errors backend l.context) (λ field. Some (field_head backend field)) l.fields l.field-index
    l.initial.errors l.errors l.made
