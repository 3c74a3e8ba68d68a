use Rattle.std.proofs.Common.{◌≡◌, ◌++◌, Some, None, ap, map, subst, ◌∙◌}
use Rattle.std.specs.Prelude.{IfOk, OnOk, option_map}
use Rattle.bridge_grid.specs.Items.{free_function_faults}
use Rattle.bridge_grid.specs.Telling.{fault_error}
use Rattle.hir_heads.specs.Told.{MadeUnlessTold}
use Rattle.hir_number.proofs.ElisionLemmas.{none_of}
use Rattle.hir_number.specs.Signatures.{without_writer}
use Rattle.hir_reports.specs.Store.{added}
use Rattle.hir_methods.proofs.DisabledLemmas.{told_after}
use Rattle.hir_methods.proofs.MadeLemmas.{both_made}
use Rattle.hir_methods.proofs.Outcomes.{always, and_so_of, made_beside}
use Rattle.hir_methods.specs.Types.{function_type_errors, function_types, whole_of}
use Rattle.hir_methods.specs.Untyped.{each_untyped_errors, untyped_forms}
use Rattle.hir_methods.specs.inside.Gathering.{callable_head, gathered}
use Rattle.hir_methods.specs.inside.Parts.{GivenUnlessTold}
use Rattle.hir_methods.proofs.functions.lower_callable.Goals as goal

pub returns-clause-told : goal.returns-clause-told
returns-clause-told g c = λ names is.
    let backend = g.V.AttributeValidator.meaning c.args.validator.now in
    let free = map fault_error (free_function_faults c.args.support.now) in
    let params = without_writer c.args.function.now.params in
    let types = function_type_errors c.args.support.now c.args.config c.args.catalog.now names c.args.function.now in
    let same : c.before_writer-params.result.now ≡ params = c.before_writer-params.ensures ∙ ap without_writer c.as_slice.ensures in
    let parts = made_beside c.gather.result c.lower_function_types-types.result c.in_ok-parts.parts c.in_ok-parts.ensures in
    let before = subst (λ ps. c.lower_each_untyped.new.errors ≡ added c.tell_free.new.errors (each_untyped_errors backend ps)) same c.in_ok-params.ensures.told in
    let told = subst (λ r. OnOk r (c.lower_function_types-types.new.errors ≡ added c.lower_each_untyped.new.errors types)) parts.1 (c.lower_function_types-types.ensures.told names is) in
    always c.join_whole.result
    (told_after c.args.errors.now c.lower_each_untyped.new.errors c.lower_function_types-types.new.errors (free ++ each_untyped_errors backend params) types
    (told_after c.args.errors.now c.tell_free.new.errors c.lower_each_untyped.new.errors free (each_untyped_errors backend params) c.in_ok-tell_free.ensures.told before) told)

pub returns-clause-made : goal.returns-clause-made
returns-clause-made g c = λ names heading is there.
    let backend = g.V.AttributeValidator.meaning c.args.validator.now in
    let function = c.args.function.now in
    let free = map fault_error (free_function_faults c.args.support.now) in
    let params = without_writer function.params in
    let errors = function_type_errors c.args.support.now c.args.config c.args.catalog.now names function in
    let form = function_types c.args.catalog.now names function in
    let same : c.before_writer-params.result.now ≡ params = c.before_writer-params.ensures ∙ ap without_writer c.as_slice.ensures in
    let parts = made_beside c.gather.result c.lower_function_types-types.result c.in_ok-parts.parts c.in_ok-parts.ensures in
    let before = subst (λ ps. MadeUnlessTold (each_untyped_errors backend ps) (untyped_forms backend ps) c.in_ok-params.params) same c.in_ok-params.ensures.made in
    let given = subst (λ r. IfOk r (GivenUnlessTold errors form)) parts.1 (c.lower_function_types-types.ensures.made names is) in
    let head : MadeUnlessTold (free ++ each_untyped_errors backend params) (callable_head backend heading function) c.gather.result = λ none.
    c.gather.ensures ∙ ap (λ h. gathered h None c.in_ok-params.params) there
    ∙ ap (gathered (Some heading) None) (before (none_of free (each_untyped_errors backend params) none).1) in
    and_so_of c.join_whole.result
    (λ made whole none.
    whole ∙ ap (option_map (λ p. whole_of c.args.attrs p.0.heading p.0.receiver p.0.params p.1)) parts.2
    ∙ both_made (λ untyped it. whole_of c.args.attrs untyped.heading untyped.receiver untyped.params it) (callable_head backend heading function) form c.gather.result
    parts.0 (free ++ each_untyped_errors backend params) errors head given none)
    c.join_whole.ensures
