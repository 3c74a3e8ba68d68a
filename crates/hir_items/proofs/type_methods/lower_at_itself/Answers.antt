use Rattle.std.proofs.Common.{ℕ, List, None, Some, ap, ◌∙◌}
use Rattle.hir_attrs.specs.declared.attrs.Attrs.{Attrs}
use Rattle.hir_methods.specs.Methods.{method_errors, method_form}
use Rattle.hir_methods.specs.Types.{unless_told}
use Rattle.hir_reports.specs.Store.{Held, added, at_subitem}
use Rattle.hir_items.proofs.HoldLemmas.{held_on, held_same, held_then}
use Rattle.hir_items.proofs.MethodLemmas.{untold_method}
use Rattle.hir_items.specs.Inheriting.{method_start}
use Rattle.hir_items.specs.Setting.{setting}
use Rattle.hir_items.specs.TypeMethods.{one_method_form}
use Rattle.hir_items.proofs.type_methods.lower_at_itself.Goals as goal

pub returns-in_err-made-clause-kept : goal.returns-in_err-made-clause-kept
returns-in_err-made-clause-kept g c =
    held_on c.args.errors.now c.set_subitem.new.self c.lower_method.new.errors (ap (λ (h : Held). h.reports) c.set_subitem.ensures) c.in_err-made.ensures.kept

pub returns-clause-told : goal.returns-clause-told
returns-clause-told g c = λ names is.
    let s = setting (g.V.AttributeValidator.meaning c.args.lent.now.validator.now) c.args.lent.now names in
    let old = c.args.errors.now in
    let method = c.args.method.now in
    let at = at_subitem old (Some method.name) in
    let told = λ (set : Attrs). method_errors s.backend s.support s.config s.catalog names c.args.place set method in
    c.clear_subitem.ensures
    ∙ ap (λ (h : Held). at_subitem h None)
    (c.in_ok-made.ensures.told names is
    ∙ (ap (λ (h : Held). added h (told c.in_ok-parent.parent)) c.set_subitem.ensures
    ∙ (ap (λ (name : List ℕ). added (at_subitem old (Some name)) (told c.in_ok-parent.parent)) c.as_str.ensures ∙ ap (λ (set : Attrs). added at (told set)) c.in_ok-parent.ensures)))

pub returns-clause-made : goal.returns-clause-made
returns-clause-made g c = λ names is none.
    let s = setting (g.V.AttributeValidator.meaning c.args.lent.now.validator.now) c.args.lent.now names in
    let old = c.args.errors.now in
    let method = c.args.method.now in
    let start = method_start c.args.module_set.now in
    let errors = method_errors s.backend s.support s.config s.catalog names c.args.place start method in
    c.in_ok-made.ensures.made names is
    ∙ ap (λ (set : Attrs). unless_told (method_errors s.backend s.support s.config s.catalog names c.args.place set method) (method_form s.backend s.catalog names c.args.place set method)) c.in_ok-parent.ensures
    ∙ ap (λ es. unless_told es (one_method_form s c.args.place c.args.module_set.now method)) (untold_method old.place.«module» old.place.item method.name errors none)

pub returns-clause-kept : goal.returns-clause-kept
returns-clause-kept g c =
    held_then c.args.errors.now c.lower_method.new.errors c.clear_subitem.new.self
    (held_on c.args.errors.now c.set_subitem.new.self c.lower_method.new.errors (ap (λ (h : Held). h.reports) c.set_subitem.ensures) c.in_ok-made.ensures.kept)
    (held_same c.lower_method.new.errors c.clear_subitem.new.self (ap (λ (h : Held). h.reports) c.clear_subitem.ensures))
