use Rattle.std.proofs.Common.{◌≡◌, ℕ, ◌<◌, None, length, subst}
use Rattle.hir_items.proofs.ItemLemmas.{made_unless_more}
use Rattle.hir_items.specs.Structs.{struct_item_form, struct_reports}
use Rattle.hir_items.specs.Setting.{setting}
use Rattle.hir_items.proofs.structs.lower_struct.Goals as goal

pub returns-clause-made : goal.returns-clause-made
returns-clause-made g c = λ names is.
    let s = setting (g.V.AttributeValidator.meaning c.args.lent.now.validator.now) c.args.lent.now names in
    let old = c.args.errors.now in
    let item = c.args.item.now in
    let set = c.args.module_set.now in
    let now = c.struct_here.new.errors in
    let made = c.in_ok-made.made in
    let kept = c.unless_more.result in
    made_unless_more old.reports now.reports (struct_reports s old.place.«module» c.args.place set item) (struct_item_form s c.args.place set item) made kept (c.in_ok-made.ensures.told names is)
    (c.in_ok-made.ensures.made names is)
    (subst (λ (n : ℕ). length now.reports ≡ n → kept ≡ made) c.len-before.ensures c.unless_more.ensures.same)
    (subst (λ (n : ℕ). n < length now.reports → kept ≡ None) c.len-before.ensures c.unless_more.ensures.more)
