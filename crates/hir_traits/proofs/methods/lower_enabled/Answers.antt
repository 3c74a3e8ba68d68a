use Rattle.std.proofs.Common.{ap, subst, ◌∙◌}
use Rattle.std.specs.Prelude.{IfOk, option_map}
use Rattle.hir_methods.proofs.MadeLemmas.{both_made}
use Rattle.hir_methods.proofs.Outcomes.{and_so_of, made_beside}
use Rattle.hir_methods.specs.inside.Parts.{GivenUnlessTold}
use Rattle.hir_traits.specs.TraitMethods.{method_callback, trait_method_head, trait_method_head_errors}
use Rattle.hir_traits.specs.TraitTypes.{trait_method_type_errors, trait_method_types}
use Rattle.hir_traits.proofs.methods.lower_enabled.Goals as goal

pub returns-clause-made : goal.returns-clause-made
returns-clause-made g c = λ names is.
    let lowering = c.args.lowering.now in
    let backend = g.V.AttributeValidator.meaning lowering.validator.now in
    let method = c.args.method.now in
    let errors = trait_method_type_errors lowering.support.now lowering.config lowering.catalog.now names c.args.place method in
    let form = trait_method_types lowering.catalog.now names c.args.place method in
    let parts = made_beside c.in_ok-read.read.head c.lower_types-types.result c.in_ok-parts.parts c.in_ok-parts.ensures in
    let given = subst (λ r. IfOk r (GivenUnlessTold errors form)) parts.1 (c.lower_types-types.ensures.made names is) in
    and_so_of c.join_whole.result
    (λ made whole none.
    whole ∙ ap (option_map (λ p. method_callback c.args.attrs p.0 p.1)) parts.2
    ∙ both_made (method_callback c.args.attrs) (trait_method_head backend method) form c.in_ok-read.read.head parts.0 (trait_method_head_errors backend method) errors
    c.in_ok-read.ensures.made given none)
    c.join_whole.ensures
