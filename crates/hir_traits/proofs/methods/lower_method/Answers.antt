use Rattle.std.proofs.Common.{◌≡◌, ap, ◌∙◌}
use Rattle.hir_attrs.specs.Reading.{marks_errors, marks_of}
use Rattle.hir_methods.proofs.Outcomes.{and_so}
use Rattle.hir_methods.specs.Untyped.{unless_disabled}
use Rattle.hir_number.proofs.ElisionLemmas.{none_of}
use Rattle.hir_traits.specs.TraitMethods.{enabled_trait_method_errors, enabled_trait_method_form}
use Rattle.hir_traits.specs.inside.Parts.{with_next_method}
use Rattle.hir_traits.proofs.methods.lower_method.Goals as goal

pub returns-clause-made : goal.returns-clause-made
returns-clause-made g c = λ names is.
    let lowering = c.args.lowering.now in
    let backend = g.V.AttributeValidator.meaning lowering.validator.now in
    let method = c.args.method.now in
    let marks = marks_of backend method.attrs c.args.parent.now in
    let rest = enabled_trait_method_errors backend lowering.support.now lowering.config lowering.catalog.now names c.args.place method in
    let same : c.in_ok-attrs.attrs ≡ marks = c.in_ok-attrs.ensures.made ∙ ap (marks_of backend method.attrs) c.in_ok-start.ensures in
    and_so c.lower_marked.result
    (λ made none.
    made (ap (λ attrs. unless_disabled attrs rest) same ∙ (none_of (marks_errors backend method.attrs c.args.parent.now) (unless_disabled marks rest) none).1)
    ∙ ap (λ attrs. with_next_method attrs c.args.methods.now (enabled_trait_method_form backend lowering.catalog.now names c.args.place attrs method)) same)
    (c.lower_marked.ensures.made names is)
