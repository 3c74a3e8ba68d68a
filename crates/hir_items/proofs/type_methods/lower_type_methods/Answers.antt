use Rattle.std.proofs.Common.{◌≡◌, [], ◌++◌, Bool, false, Some, None, ap, sym, ◌∙◌}
use Rattle.std.specs.Prelude.{if◌then◌else◌}
use Rattle.std.specs.List.{filter_map}
use Rattle.hir_methods.proofs.Outcomes.{and_so}
use Rattle.hir_number.proofs.ElisionLemmas.{none_of}
use Rattle.hir_reports.specs.Store.{at_subitem}
use Rattle.hir_special.specs.Repeated.{none_seen}
use Rattle.hir_items.proofs.MethodLemmas.{after_made, after_told, methods_formed}
use Rattle.hir_items.specs.Inheriting.{method_start}
use Rattle.hir_items.specs.Repeated.{repeated_reports}
use Rattle.hir_items.specs.Setting.{setting}
use Rattle.hir_items.specs.TypeMethods.{all_method_reports, each_method_form, each_method_reports, one_method_form, type_method_form, type_method_reports}
use Rattle.hir_items.specs.inside.Reported.{with_reports}
use Rattle.hir_items.proofs.type_methods.lower_type_methods.Goals as goal

pub returns-clause-told : goal.returns-clause-told
returns-clause-told g c = λ names is.
    let s = setting (g.V.AttributeValidator.meaning c.args.lent.now.validator.now) c.args.lent.now names in
    let old = c.args.errors.now in
    let rest = all_method_reports s old.place.«module» old.place.item c.args.place c.args.module_set.now c.args.methods.now in
    after_told (c.add_all_methods-done.new.errors ≡ with_reports (at_subitem old None)
    (type_method_reports s old.place.«module» old.place.item c.args.place c.args.module_set.now c.args.marks.now c.args.methods.now))
    c.add_all_methods-done.new.lowered c.add_all_methods-done.result c.after.result c.after.ensures
    (and_so c.add_all_methods-done.result (λ told. told ∙ ap (λ (b : Bool). with_reports (at_subitem old None) (if b then [] else rest)) (sym c.if-marks.false)) (c.add_all_methods-done.ensures.told names is))

pub returns-clause-made : goal.returns-clause-made
returns-clause-made g c = λ names is.
    let s = setting (g.V.AttributeValidator.meaning c.args.lent.now.validator.now) c.args.lent.now names in
    let old = c.args.errors.now in
    let methods = c.args.methods.now in
    let set = c.args.module_set.now in
    let form = one_method_form s c.args.place set in
    let rest = all_method_reports s old.place.«module» old.place.item c.args.place set methods in
    let on : c.args.marks.now.disable ≡ false = c.if-marks.false in
    after_made (type_method_reports s old.place.«module» old.place.item c.args.place set c.args.marks.now methods ≡ [])
    (type_method_form s c.args.place set c.args.marks.now methods) c.add_all_methods-done.new.lowered c.add_all_methods-done.result c.after.result c.after.ensures
    (and_so c.add_all_methods-done.result
    (λ made none.
    let untold : rest ≡ [] = sym (ap (λ (b : Bool). if b then [] else rest) on) ∙ none in
    ap (λ (b : Bool). if b then Some [] else each_method_form s c.args.place set methods) on
    ∙ methods_formed s old.place.«module» old.place.item c.args.place set
    (λ method. c.what_is_fine_is_made.ensures.method s.backend s.support s.config s.catalog s.names c.args.place (method_start set) method) methods (none_of (each_method_reports s old.place.«module» old.place.item c.args.place set methods) (repeated_reports s.backend s.support old.place.«module» old.place.item set none_seen methods) untold).0
    ∙ ap (λ ms. Some ms) (sym (made untold ∙ ap (λ xs. xs ++ filter_map form methods) c.new-lowered.ensures)))
    (c.add_all_methods-done.ensures.made names is))
