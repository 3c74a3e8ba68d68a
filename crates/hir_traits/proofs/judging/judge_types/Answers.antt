use Rattle.std.proofs.Common.{ap, subst, ◌∙◌}
use Rattle.std.specs.Prelude.{IfOk, option_map}
use Rattle.std.specs.List.{flat_map}
use Rattle.hir_form.specs.ReturnForms.{both_given}
use Rattle.hir_methods.proofs.Outcomes.{made_beside}
use Rattle.hir_methods.specs.inside.Parts.{GivenUnlessTold}
use Rattle.hir_traits.proofs.JudgeLemmas.{both_judged}
use Rattle.hir_traits.specs.TraitTypes.{trait_output_errors, trait_output_form, trait_param_errors, trait_params_form, trait_types_with}
use Rattle.hir_traits.proofs.judging.judge_types.Goals as goal

pub returns-clause-made : goal.returns-clause-made
returns-clause-made g c = λ none.
    let lowering = c.args.lowering.now in
    let catalog = lowering.catalog.now in
    let numbered = c.args.numbered.now in
    let receiver = c.in_ok-receiver.receiver in
    let each = trait_param_errors lowering.support.now lowering.config catalog in
    let parts = made_beside c.in_ok-params.params c.judge_output-output.result c.in_ok-parts.parts c.in_ok-parts.ensures in
    let params =
    subst (λ ts. GivenUnlessTold (flat_map each ts) (trait_params_form catalog ts) c.in_ok-params.params) c.as_slice.ensures c.in_ok-params.ensures.made in
    let output =
    subst (λ r. IfOk r (GivenUnlessTold (trait_output_errors lowering.support.now catalog numbered.output) (trait_output_form catalog numbered.output))) parts.1 c.judge_output-output.ensures.made in
    c.typed.ensures ∙ ap (option_map (λ p. trait_types_with receiver p.0 p.1)) parts.2
    ∙ both_judged (trait_types_with receiver) (trait_params_form catalog numbered.params) (trait_output_form catalog numbered.output) c.in_ok-params.params parts.0
    (flat_map each numbered.params) (trait_output_errors lowering.support.now catalog numbered.output) params output none
    ∙ ap (λ r. both_given (trait_types_with r) (trait_params_form catalog numbered.params) (trait_output_form catalog numbered.output)) c.in_ok-receiver.ensures
