use Rattle.std.proofs.Common.{◌≡◌, length, ap, ◌∙◌}
use Rattle.std.specs.Prelude.{◌==◌}
use Rattle.hir_items.proofs.ItemLemmas.{made_unless_more}
use Rattle.hir_methods.specs.Choosing.{kept_if}
use Rattle.hir_traits.proofs.KeptLemmas.{more_kept, same_kept}
use Rattle.hir_traits.specs.Traits.{trait_form, trait_reports}
use Rattle.hir_traits.proofs.traits.lower_trait.Goals as goal

pub returns-clause-made : goal.returns-clause-made
returns-clause-made g c = λ names is.
    let backend = g.V.AttributeValidator.meaning c.args.lowering.now.validator.now in
    let lowering = c.args.lowering.now in
    let old = c.args.errors.now.reports in
    let now = c.lower_whole.new.errors.reports in
    let made = c.in_ok-made.made in
    let reports = trait_reports backend lowering.support.now lowering.config lowering.catalog.now names c.args.place c.args.start c.args.errors.now.place.«module» c.args.item.now in
    let form = trait_form backend lowering.catalog.now names c.args.place c.args.start c.args.item.now in
    let kept : c.kept_if.result ≡ kept_if (length now == length old) made =
    c.kept_if.ensures ∙ (ap (λ n. kept_if (n == c.len-before.result) made) c.len.ensures ∙ ap (λ n. kept_if (length now == n) made) c.len-before.ensures) in
    made_unless_more old now reports form made c.kept_if.result (c.in_ok-made.ensures.told names is) (c.in_ok-made.ensures.made names is)
    (same_kept (length now) (length old) made c.kept_if.result kept) (more_kept (length now) (length old) made c.kept_if.result kept)
