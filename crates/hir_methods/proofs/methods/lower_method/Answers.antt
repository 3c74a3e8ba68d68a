use Rattle.std.proofs.Common.{◌≡◌, Some, sym, ap, ◌∙◌}
use Rattle.bridge_order.specs.Catalog.{entry_at}
use Rattle.hir_reports.specs.Store.{added}
use Rattle.hir_special.specs.Told.{special_errors}
use Rattle.hir_methods.proofs.Outcomes.{and_so, and_so_of}
use Rattle.hir_methods.proofs.SpecialLemmas.{kept_special, special_told}
use Rattle.hir_methods.specs.Methods.{method_errors, method_form, owner_id, plain_method_errors}
use Rattle.hir_methods.specs.Types.{unless_told}
use Rattle.hir_methods.proofs.methods.lower_method.Goals as goal

pub returns-in-Some-clause-told : goal.returns-in-Some-clause-told
unfolding method_errors
returns-in-Some-clause-told g c = λ names is.
    let backend = g.V.AttributeValidator.meaning c.args.validator.now in
    let support = c.args.support.now in
    let catalog = c.args.catalog.now in
    let told = plain_method_errors backend support c.args.config catalog names c.args.owner c.args.parent c.args.method.now in
    let form = method_form backend catalog names c.args.owner c.args.parent c.args.method.now in
    let id : c.owner_id.result ≡ owner_id (entry_at catalog c.args.owner) = c.owner_id.ensures ∙ ap owner_id c.entry.ensures in
    let mid = c.lower_plain.new.errors in
    let made = c.in-Some.made in
    and_so c.keep_special.result
    (λ more.
    special_told support (owner_id (entry_at catalog c.args.owner)) told form made c.args.errors.now mid c.keep_special.new.errors (c.in_ok-made.ensures.told names is)
    (sym c.in-Some.is ∙ c.in_ok-made.ensures.made names is) (more ∙ ap (λ i. added mid (special_errors support i made)) id))
    c.keep_special.ensures.told

pub returns-in-Some-clause-made : goal.returns-in-Some-clause-made
unfolding method_errors
returns-in-Some-clause-made g c = λ names is.
    let backend = g.V.AttributeValidator.meaning c.args.validator.now in
    let support = c.args.support.now in
    let catalog = c.args.catalog.now in
    let told = plain_method_errors backend support c.args.config catalog names c.args.owner c.args.parent c.args.method.now in
    let form = method_form backend catalog names c.args.owner c.args.parent c.args.method.now in
    let id : c.owner_id.result ≡ owner_id (entry_at catalog c.args.owner) = c.owner_id.ensures ∙ ap owner_id c.entry.ensures in
    let made = c.in-Some.made in
    and_so_of c.keep_special.result
    (λ kept one.
    kept_special support (owner_id (entry_at catalog c.args.owner)) told form made kept (sym c.in-Some.is ∙ c.in_ok-made.ensures.made names is)
    (one ∙ ap (λ i. unless_told (special_errors support i made) (Some made)) id))
    c.keep_special.ensures.made
