use Rattle.std.proofs.Common.{◌≡◌, ◌++◌, ap, ◌∙◌}
use Rattle.hir_attrs.specs.Reading.{marks_of}
use Rattle.hir_mark_contexts.specs.Told.{tested_errors}
use Rattle.hir_mark_contexts.specs.declared.contexts.MarkContext.TheVariants as marked
use Rattle.hir_number.proofs.ElisionLemmas.{none_of}
use Rattle.hir_reports.specs.Store.{added}
use Rattle.hir_methods.proofs.DisabledLemmas.{told_after}
use Rattle.hir_methods.proofs.Outcomes.{and_so, and_so_of, under}
use Rattle.hir_methods.specs.Functions.{callable_errors, function_form, headed_form}
use Rattle.hir_methods.specs.Untyped.{heading_errors, heading_form, unless_disabled}
use Rattle.hir_methods.proofs.functions.lower_marked.Goals as goal

pub returns-clause-told : goal.returns-clause-told
returns-clause-told g c = λ names is.
    let backend = g.V.AttributeValidator.meaning c.args.validator.now in
    let function = c.args.function.now in
    let marks = tested_errors backend marked.Function function.attrs c.args.parent in
    let heading = heading_errors backend function.docs function.name function.abi_name function.lifetimes in
    let rest = callable_errors backend c.args.support.now c.args.config c.args.catalog.now names function in
    and_so c.lower_headed.result
    (λ told.
    told_after c.args.errors.now c.lower_heading.new.errors c.lower_headed.new.errors (marks ++ heading) (unless_disabled c.in_ok-attrs.attrs rest)
    (told_after c.args.errors.now c.tested_attrs.new.errors c.lower_heading.new.errors marks heading c.in_ok-attrs.ensures.told c.in_ok-heading.ensures.told) told
    ∙ ap (λ attrs. added c.args.errors.now (marks ++ heading ++ unless_disabled attrs rest)) c.in_ok-attrs.ensures.made)
    (c.lower_headed.ensures.told names is)

pub returns-clause-made : goal.returns-clause-made
returns-clause-made g c = λ names is.
    let backend = g.V.AttributeValidator.meaning c.args.validator.now in
    let function = c.args.function.now in
    let marks = tested_errors backend marked.Function function.attrs c.args.parent in
    let errors = heading_errors backend function.docs function.name function.abi_name function.lifetimes in
    let heading = heading_form backend function.docs function.name function.abi_name in
    let rest = callable_errors backend c.args.support.now c.args.config c.args.catalog.now names function in
    under (λ made. made ≡ function_form backend c.args.catalog.now names c.args.parent function) c.lower_headed.result
    (λ none.
    let parts = none_of (marks ++ errors) (unless_disabled (marks_of backend function.attrs c.args.parent) rest) none in
    and_so_of c.lower_headed.result
    (λ made given.
    given (ap (λ attrs. unless_disabled attrs rest) c.in_ok-attrs.ensures.made ∙ parts.1)
    ∙ ap (λ attrs. headed_form backend c.args.catalog.now names attrs heading function) c.in_ok-attrs.ensures.made)
    (c.lower_headed.ensures.made names heading is (c.in_ok-heading.ensures.made (none_of marks errors parts.0).1)))
