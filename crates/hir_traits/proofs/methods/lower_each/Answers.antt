use Rattle.bridge_decl.specs.declared.traits.TraitMethod.{TraitMethod}
use Rattle.hir_attrs.specs.Reading.{marks_of}
use Rattle.hir_traits.proofs.WalkLemmas.{walk_given, walk_goes_on, walk_told}
use Rattle.hir_traits.specs.TraitMethods.{trait_method_errors, trait_method_form}
use Rattle.hir_traits.proofs.methods.lower_each.Goals as goal

pub loop-method-preserved : goal.loop-method-preserved
loop-method-preserved g c =
    let backend = g.V.AttributeValidator.meaning c.args.lowering.now.validator.now in
    let lowering = c.args.lowering.now in
    record {
      walked = λ names is.
          walk_goes_on (trait_method_errors backend lowering.support.now lowering.config lowering.catalog.now names c.args.place c.args.parent.now)
          (λ (m : TraitMethod). marks_of backend m.attrs c.args.parent.now) (trait_method_form backend lowering.catalog.now names c.args.place c.args.parent.now) c.args.methods.now
          c.loop-method.method-index c.method-item.result c.args.errors.now c.loop-method.errors c.lower_next.new.errors c.loop-method.made c.lower_next.new.methods
          (c.loop-method.invariant.walked names is) c.loop-method-test.true c.method-item.is (c.in_ok-lower_next.ensures.told names is) (c.in_ok-lower_next.ensures.made names is);
      kept = λ earlier holds. c.in_ok-lower_next.ensures.kept earlier (c.loop-method.invariant.kept earlier holds);
    }

pub returns-clause-told : goal.returns-clause-told
returns-clause-told g c = λ names is.
    let backend = g.V.AttributeValidator.meaning c.args.lowering.now.validator.now in
    let lowering = c.args.lowering.now in
    walk_told (trait_method_errors backend lowering.support.now lowering.config lowering.catalog.now names c.args.place c.args.parent.now)
    (λ (m : TraitMethod). marks_of backend m.attrs c.args.parent.now) (trait_method_form backend lowering.catalog.now names c.args.place c.args.parent.now) c.args.methods.now
    c.loop-method.method-index c.args.errors.now c.loop-method.errors c.loop-method.made (c.loop-method.invariant.walked names is) c.loop-method-test.false

pub returns-clause-made : goal.returns-clause-made
returns-clause-made g c = λ names is.
    let backend = g.V.AttributeValidator.meaning c.args.lowering.now.validator.now in
    let lowering = c.args.lowering.now in
    walk_given (trait_method_errors backend lowering.support.now lowering.config lowering.catalog.now names c.args.place c.args.parent.now)
    (λ (m : TraitMethod). marks_of backend m.attrs c.args.parent.now) (trait_method_form backend lowering.catalog.now names c.args.place c.args.parent.now) c.args.methods.now
    c.loop-method.method-index c.args.errors.now c.loop-method.errors c.loop-method.made (c.loop-method.invariant.walked names is) c.loop-method-test.false
