use Rattle.std.proofs.Common.{◌≡◌, Some, ap, subst, ◌∙◌}
use Rattle.hir_heads.specs.Told.{MadeUnlessTold}
use Rattle.hir_methods.specs.Required.{method_param_errors}
use Rattle.hir_number.specs.Signatures.{without_writer}
use Rattle.hir_methods.proofs.MadeLemmas.{gathered_made}
use Rattle.hir_methods.specs.Untyped.{heading_form, untyped_forms}
use Rattle.hir_methods.proofs.methods.lower_untyped.Goals as goal

pub returns-clause-made : goal.returns-clause-made
returns-clause-made g c = λ none.
    let backend = g.V.AttributeValidator.meaning c.args.validator.now in
    let method = c.args.method.now in
    let heading = heading_form backend method.docs method.name method.abi_name in
    let params = without_writer method.params in
    let is : c.before_writer-params.result.now ≡ params = c.before_writer-params.ensures ∙ ap without_writer c.as_slice.ensures in
    c.gather.ensures
    ∙ gathered_made heading c.in_ok-receiver.receiver (untyped_forms backend params) _ _ _ c.in_ok-heading.heading c.in_ok-params.params c.in_ok-heading.ensures.made
    (subst (λ ps. MadeUnlessTold (method_param_errors backend ps) (untyped_forms backend ps) c.in_ok-params.params) is c.in_ok-params.ensures.made) none
    ∙ ap (λ receiver. Some (record { heading = heading; receiver = receiver; params = untyped_forms backend params })) c.in_ok-receiver.ensures.made
