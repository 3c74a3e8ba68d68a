use Rattle.std.specs.List.{zip}
use Rattle.hir_fields.proofs.SoFar.{SoFar}
use Rattle.hir_fields.proofs.types.judge_each.Given as goal

abbrev pub invariant-loop-i : goal.invariant-loop-i
invariant-loop-i g l =
    SoFar (λ pair. g.K.FieldKind.type_errors l.support l.catalog pair.0.name pair.1) (λ pair. g.K.FieldKind.type_form l.catalog pair.1) (zip l.fields l.types)
    l.i l.initial.errors l.errors l.made
