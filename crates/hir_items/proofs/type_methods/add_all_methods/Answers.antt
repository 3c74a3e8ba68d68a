use Rattle.hir_methods.proofs.Outcomes.{always}
use Rattle.hir_number.proofs.ElisionLemmas.{none_of}
use Rattle.hir_special.specs.Repeated.{none_seen}
use Rattle.hir_items.specs.Repeated.{repeated_reports}
use Rattle.hir_items.specs.Setting.{setting}
use Rattle.hir_items.specs.TypeMethods.{each_method_reports}
use Rattle.hir_items.proofs.type_methods.add_all_methods.Goals as goal

pub returns-clause-made : goal.returns-clause-made
returns-clause-made g c = λ names is.
    let s = setting (g.V.AttributeValidator.meaning c.args.lent.now.validator.now) c.args.lent.now names in
    let old = c.args.errors.now in
    let set = c.args.module_set.now in
    let methods = c.args.methods.now in
    let each = each_method_reports s old.place.«module» old.place.item c.args.place set methods in
    let repeated = repeated_reports s.backend s.support old.place.«module» old.place.item set none_seen methods in
    always c.tell_repeated.result (λ none. c.in_ok-add_methods.ensures.made names is (none_of each repeated none).0)
