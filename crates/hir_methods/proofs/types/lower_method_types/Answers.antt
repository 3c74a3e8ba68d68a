use Rattle.std.proofs.Common.{ap, subst, ◌∙◌}
use Rattle.std.specs.Prelude.{IfOk}
use Rattle.hir_form.specs.SignatureForms.{signature_faults}
use Rattle.hir_number.specs.Breaches.{method_breaches}
use Rattle.hir_signatures.specs.Lowered.{IsLoweredMethod, MethodComesTo}
use Rattle.hir_signatures.specs.Stages.{types_form}
use Rattle.hir_stages.specs.Given.{method_stage}
use Rattle.hir_methods.proofs.Outcomes.{and_on, and_so_of, kept_of}
use Rattle.hir_methods.proofs.StageLemmas.{made_as_given, method_given, told_as_given}
use Rattle.hir_methods.specs.Types.{method_type_errors}
use Rattle.hir_methods.specs.Writers.{trailing_writer}
use Rattle.hir_methods.proofs.types.lower_method_types.Goals as goal

pub returns-clause-told : goal.returns-clause-told
returns-clause-told c = λ names is.
    let method = c.args.method.now in
    let catalog = c.args.catalog.now in
    let written = trailing_writer method.params in
    let r = c.lower_method_signature.result in
    let old = c.args.errors.now in
    let new = c.lower_method_signature.new.errors in
    let lowered =
    subst (λ w. IfOk r (IsLoweredMethod names c.args.owner c.args.support.now c.args.config catalog w method old new))
    (c.trailing_writer-written.ensures ∙ ap trailing_writer c.as_slice.ensures) (c.lower_method_signature.ensures.lowered names is) in
    and_on r
    (λ answer low.
    told_as_given (method_breaches names c.args.owner method) (MethodComesTo names c.args.owner method) (signature_faults c.args.support.now c.args.config catalog written)
    (types_form catalog written) (method_stage names c.args.owner method) (method_given names c.args.owner method) old new answer low)
    lowered

pub returns-clause-made : goal.returns-clause-made
returns-clause-made c = λ names is.
    let method = c.args.method.now in
    let catalog = c.args.catalog.now in
    let written = trailing_writer method.params in
    let r = c.lower_method_signature.result in
    let old = c.args.errors.now in
    let new = c.lower_method_signature.new.errors in
    let lowered =
    subst (λ w. IfOk r (IsLoweredMethod names c.args.owner c.args.support.now c.args.config catalog w method old new))
    (c.trailing_writer-written.ensures ∙ ap trailing_writer c.as_slice.ensures) (c.lower_method_signature.ensures.lowered names is) in
    and_so_of r
    (λ answer low.
    made_as_given (method_breaches names c.args.owner method) (MethodComesTo names c.args.owner method) (signature_faults c.args.support.now c.args.config catalog written)
    (types_form catalog written) (method_stage names c.args.owner method) (method_given names c.args.owner method) old new answer low)
    lowered

pub returns-clause-kept : goal.returns-clause-kept
returns-clause-kept c =
    let names = c.paths_have_a_meaning.ensures.0 in
    let errors = method_type_errors c.args.support.now c.args.config c.args.catalog.now names c.args.owner c.args.method.now in
    kept_of c.lower_method_signature.result c.args.errors.now c.lower_method_signature.new.errors errors (returns-clause-told c names c.paths_have_a_meaning.ensures.1)
    c.lower_method_signature.ensures.err
