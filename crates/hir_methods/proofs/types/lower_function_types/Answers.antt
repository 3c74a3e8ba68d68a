use Rattle.std.proofs.Common.{ap, subst, ◌∙◌}
use Rattle.std.specs.Prelude.{IfOk}
use Rattle.hir_form.specs.SignatureForms.{signature_faults}
use Rattle.hir_number.specs.Breaches.{function_breaches}
use Rattle.hir_signatures.specs.Lowered.{FunctionComesTo, IsLoweredFunction}
use Rattle.hir_signatures.specs.Stages.{types_form}
use Rattle.hir_stages.specs.Given.{function_stage}
use Rattle.hir_methods.proofs.Outcomes.{and_on, and_so_of, kept_of}
use Rattle.hir_methods.proofs.StageLemmas.{function_given, made_as_given, told_as_given}
use Rattle.hir_methods.specs.Types.{function_type_errors}
use Rattle.hir_methods.specs.Writers.{trailing_writer}
use Rattle.hir_methods.proofs.types.lower_function_types.Goals as goal

pub returns-clause-told : goal.returns-clause-told
returns-clause-told c = λ names is.
    let function = c.args.function.now in
    let catalog = c.args.catalog.now in
    let written = trailing_writer function.params in
    let r = c.lower_function_signature.result in
    let old = c.args.errors.now in
    let new = c.lower_function_signature.new.errors in
    let lowered =
    subst (λ w. IfOk r (IsLoweredFunction names c.args.support.now c.args.config catalog w function old new))
    (c.trailing_writer-written.ensures ∙ ap trailing_writer c.as_slice.ensures) (c.lower_function_signature.ensures.lowered names is) in
    and_on r
    (λ answer low.
    told_as_given (function_breaches names function) (FunctionComesTo names function) (signature_faults c.args.support.now c.args.config catalog written)
    (types_form catalog written) (function_stage names function) (function_given names function) old new answer low)
    lowered

pub returns-clause-made : goal.returns-clause-made
returns-clause-made c = λ names is.
    let function = c.args.function.now in
    let catalog = c.args.catalog.now in
    let written = trailing_writer function.params in
    let r = c.lower_function_signature.result in
    let old = c.args.errors.now in
    let new = c.lower_function_signature.new.errors in
    let lowered =
    subst (λ w. IfOk r (IsLoweredFunction names c.args.support.now c.args.config catalog w function old new))
    (c.trailing_writer-written.ensures ∙ ap trailing_writer c.as_slice.ensures) (c.lower_function_signature.ensures.lowered names is) in
    and_so_of r
    (λ answer low.
    made_as_given (function_breaches names function) (FunctionComesTo names function) (signature_faults c.args.support.now c.args.config catalog written)
    (types_form catalog written) (function_stage names function) (function_given names function) old new answer low)
    lowered

pub returns-clause-kept : goal.returns-clause-kept
returns-clause-kept c =
    let names = c.paths_have_a_meaning.ensures.0 in
    let errors = function_type_errors c.args.support.now c.args.config c.args.catalog.now names c.args.function.now in
    kept_of c.lower_function_signature.result c.args.errors.now c.lower_function_signature.new.errors errors (returns-clause-told c names c.paths_have_a_meaning.ensures.1)
    c.lower_function_signature.ensures.err
