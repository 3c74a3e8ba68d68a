use Rattle.std.proofs.Common.{[], Some, ap, sym, ◌∙◌}
use Rattle.std.specs.Prelude.{if◌then◌else◌, option_map}
use Rattle.hir_reports.proofs.StoreLaws.{added_nothing}
use Rattle.hir_reports.specs.Store.{added}
use Rattle.hir_methods.proofs.DisabledLemmas.{enabled_all}
use Rattle.hir_methods.proofs.Outcomes.{and_so, and_so_of}
use Rattle.hir_methods.specs.Functions.{callable_errors, callable_form, disabled_form}
use Rattle.hir_methods.proofs.functions.lower_headed.Goals as goal

pub returns-then-attrs-clause-told : goal.returns-then-attrs-clause-told
returns-then-attrs-clause-told g c = λ names is.
    let backend = g.V.AttributeValidator.meaning c.args.validator.now in
    let rest = callable_errors backend c.args.support.now c.args.config c.args.catalog.now names c.args.function.now in
    added_nothing c.args.errors.now ∙ ap (λ b. added c.args.errors.now (if b then [] else rest)) (sym c.if-attrs.true)

pub returns-then-attrs-clause-made : goal.returns-then-attrs-clause-made
returns-then-attrs-clause-made g c = λ names heading is there none.
    let backend = g.V.AttributeValidator.meaning c.args.validator.now in
    c.disabled_if.ensures ∙ ap (option_map (disabled_form c.args.attrs)) there
    ∙ ap (λ b. if b then Some (disabled_form c.args.attrs heading) else callable_form backend c.args.catalog.now names c.args.attrs heading c.args.function.now) (sym c.if-attrs.true)

pub returns-clause-told : goal.returns-clause-told
returns-clause-told g c = λ names is.
    let backend = g.V.AttributeValidator.meaning c.args.validator.now in
    let rest = callable_errors backend c.args.support.now c.args.config c.args.catalog.now names c.args.function.now in
    and_so c.lower_callable.result (λ told. told ∙ ap (added c.args.errors.now) (sym (enabled_all c.args.attrs rest c.if-attrs.false))) (c.lower_callable.ensures.told names is)

pub returns-clause-made : goal.returns-clause-made
returns-clause-made g c = λ names heading is there.
    let backend = g.V.AttributeValidator.meaning c.args.validator.now in
    let rest = callable_errors backend c.args.support.now c.args.config c.args.catalog.now names c.args.function.now in
    let form = callable_form backend c.args.catalog.now names c.args.attrs heading c.args.function.now in
    and_so_of c.lower_callable.result
    (λ made given none.
    given (sym (enabled_all c.args.attrs rest c.if-attrs.false) ∙ none)
    ∙ sym (ap (λ b. if b then Some (disabled_form c.args.attrs heading) else form) c.if-attrs.false))
    (c.lower_callable.ensures.made names heading is there)
