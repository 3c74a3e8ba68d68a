use Rattle.std.proofs.Common.{◌≡◌, ap, subst, ◌∙◌}
use Rattle.std.specs.Prelude.{IfOk, OnOk, option_map}
use Rattle.hir_reports.specs.Store.{added}
use Rattle.hir_methods.proofs.DisabledLemmas.{told_after}
use Rattle.hir_methods.proofs.MadeLemmas.{both_made}
use Rattle.hir_methods.proofs.Outcomes.{always, and_so_of, made_beside}
use Rattle.hir_methods.specs.Types.{method_type_errors, method_types, whole_of}
use Rattle.hir_methods.specs.inside.Gathering.{apart_errors, apart_form}
use Rattle.hir_methods.specs.inside.Parts.{GivenUnlessTold}
use Rattle.hir_methods.proofs.methods.lower_enabled.Goals as goal

pub returns-clause-told : goal.returns-clause-told
returns-clause-told g c = λ names is.
    let backend = g.V.AttributeValidator.meaning c.args.validator.now in
    let types = method_type_errors c.args.support.now c.args.config c.args.catalog.now names c.args.owner c.args.method.now in
    let parts = made_beside c.in_ok-untyped.untyped c.lower_method_types-types.result c.in_ok-parts.parts c.in_ok-parts.ensures in
    let told = subst (λ r. OnOk r (c.lower_method_types-types.new.errors ≡ added c.lower_untyped.new.errors types)) parts.1 (c.lower_method_types-types.ensures.told names is) in
    always c.join_whole.result
    (told_after c.args.errors.now c.lower_untyped.new.errors c.lower_method_types-types.new.errors (apart_errors backend c.args.method.now) types c.in_ok-untyped.ensures.told told)

pub returns-clause-made : goal.returns-clause-made
returns-clause-made g c = λ names is.
    let backend = g.V.AttributeValidator.meaning c.args.validator.now in
    let method = c.args.method.now in
    let errors = method_type_errors c.args.support.now c.args.config c.args.catalog.now names c.args.owner method in
    let form = method_types c.args.catalog.now names c.args.owner method in
    let parts = made_beside c.in_ok-untyped.untyped c.lower_method_types-types.result c.in_ok-parts.parts c.in_ok-parts.ensures in
    let given = subst (λ r. IfOk r (GivenUnlessTold errors form)) parts.1 (c.lower_method_types-types.ensures.made names is) in
    and_so_of c.join_whole.result
    (λ made whole none.
    whole ∙ ap (option_map (λ p. whole_of c.args.attrs p.0.heading p.0.receiver p.0.params p.1)) parts.2
    ∙ both_made (λ untyped it. whole_of c.args.attrs untyped.heading untyped.receiver untyped.params it) (apart_form backend method) form c.in_ok-untyped.untyped
    parts.0 (apart_errors backend method) errors c.in_ok-untyped.ensures.made given none)
    c.join_whole.ensures
