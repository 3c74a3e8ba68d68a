use Rattle.std.proofs.Common.{Some}
use Rattle.hir_fields.proofs.SoFar.{SoFar}
use Rattle.hir_fields.specs.Variants.{variant_errors, variant_form}
use Rattle.hir_fields.proofs.variants.lower_variants.Given as goal

abbrev pub invariant-loop-variant : goal.invariant-loop-variant
invariant-loop-variant g l =
    let backend = g.V.AttributeValidator.meaning l.validator in
    SoFar (variant_errors backend l.enum_set) (λ variant. Some (variant_form backend l.enum_set variant)) l.variants l.variant-index l.initial.errors
    l.errors l.made
