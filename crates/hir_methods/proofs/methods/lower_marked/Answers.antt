use Rattle.std.proofs.Common.{◌≡◌, None, false, ap, sym, ◌∙◌}
use Rattle.std.specs.Prelude.{if◌then◌else◌}
use Rattle.hir_attrs.specs.Reading.{marks_of}
use Rattle.hir_mark_contexts.specs.Told.{tested_errors}
use Rattle.hir_mark_contexts.specs.declared.contexts.MarkContext.TheVariants as marked
use Rattle.hir_number.proofs.ElisionLemmas.{none_of}
use Rattle.hir_methods.proofs.DisabledLemmas.{enabled_all, told_enabled}
use Rattle.hir_methods.proofs.Outcomes.{and_so, and_so_of}
use Rattle.hir_methods.specs.Methods.{enabled_errors, enabled_form}
use Rattle.hir_methods.specs.Untyped.{unless_disabled}
use Rattle.hir_methods.proofs.methods.lower_marked.Goals as goal

pub returns-clause-told : goal.returns-clause-told
returns-clause-told g c = λ names is.
    let backend = g.V.AttributeValidator.meaning c.args.validator.now in
    let marks = marks_of backend c.args.method.now.attrs c.args.parent in
    let rest = enabled_errors backend c.args.support.now c.args.config c.args.catalog.now names c.args.owner c.args.method.now in
    let on : marks.disable ≡ false = sym (ap (λ a. a.disable) c.in_ok-attrs.ensures.made) ∙ c.if-attrs.false in
    and_so c.lower_enabled.result
    (told_enabled marks c.args.errors.now c.tested_attrs.new.errors c.lower_enabled.new.errors (tested_errors backend marked.Method c.args.method.now.attrs c.args.parent) rest on c.in_ok-attrs.ensures.told)
    (c.lower_enabled.ensures.told names is)

pub returns-clause-made : goal.returns-clause-made
returns-clause-made g c = λ names is.
    let backend = g.V.AttributeValidator.meaning c.args.validator.now in
    let marks = marks_of backend c.args.method.now.attrs c.args.parent in
    let rest = enabled_errors backend c.args.support.now c.args.config c.args.catalog.now names c.args.owner c.args.method.now in
    let on : marks.disable ≡ false = sym (ap (λ a. a.disable) c.in_ok-attrs.ensures.made) ∙ c.if-attrs.false in
    and_so_of c.lower_enabled.result
    (λ made given none.
    given (sym (enabled_all marks rest on) ∙ (none_of (tested_errors backend marked.Method c.args.method.now.attrs c.args.parent) (unless_disabled marks rest) none).1)
    ∙ ap (λ attrs. enabled_form backend c.args.catalog.now names c.args.owner attrs c.args.method.now) c.in_ok-attrs.ensures.made
    ∙ sym (ap (λ b. if b then None else enabled_form backend c.args.catalog.now names c.args.owner marks c.args.method.now) on))
    (c.lower_enabled.ensures.made names is)
