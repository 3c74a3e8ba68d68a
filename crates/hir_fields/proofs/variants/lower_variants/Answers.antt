use Rattle.std.proofs.Common.{Some}
use Rattle.hir_fields.proofs.SoFar.{ends_made, given_made, goes_on_at}
use Rattle.hir_fields.specs.Variants.{variant_errors, variant_form}
use Rattle.hir_fields.proofs.variants.lower_variants.Goals as goal

pub loop-variant-preserved : goal.loop-variant-preserved
loop-variant-preserved g c =
    let backend = g.V.AttributeValidator.meaning c.args.validator.now in
    let variant = c.variant-item.result in
    goes_on_at (variant_errors backend c.args.enum_set.now) (λ v. Some (variant_form backend c.args.enum_set.now v)) c.args.variants.now c.loop-variant.variant-index variant c.args.errors.now
    c.loop-variant.errors c.lower_variant.new.errors c.loop-variant.made c.in_ok-made.made c.in_ok-next.next c.loop-variant.invariant c.loop-variant-test.true c.variant-item.is
    c.in_ok-next.ensures.told
    (given_made (variant_errors backend c.args.enum_set.now variant) (variant_form backend c.args.enum_set.now variant) c.in_ok-next.next c.in_ok-next.ensures.made)
    c.in_ok-next.ensures.kept c.in_ok-made.ensures

pub returns-clause-made : goal.returns-clause-made
returns-clause-made g c =
    let backend = g.V.AttributeValidator.meaning c.args.validator.now in
    ends_made (variant_errors backend c.args.enum_set.now) (variant_form backend c.args.enum_set.now) c.args.variants.now c.loop-variant.variant-index c.args.errors.now c.loop-variant.errors
    c.loop-variant.made c.loop-variant.invariant c.loop-variant-test.false
