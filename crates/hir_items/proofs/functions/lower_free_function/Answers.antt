use Rattle.std.proofs.Common.{[], ap, ◌∙◌}
use Rattle.std.proofs.lemmas.List.Elements.{All-head}
use Rattle.bridge_decl.specs.Lifetimes.{IsSoundEnvironment}
use Rattle.hir_attrs.specs.declared.attrs.Attrs.{Attrs}
use Rattle.hir_methods.proofs.Outcomes.{and_so_of}
use Rattle.hir_methods.specs.Functions.{function_errors, function_form}
use Rattle.hir_methods.specs.Types.{unless_told}
use Rattle.hir_reports.specs.Store.{Held}
use Rattle.hir_items.proofs.HoldLemmas.{held_on}
use Rattle.hir_items.proofs.ItemLemmas.{as_reported}
use Rattle.hir_items.specs.Inheriting.{item_start}
use Rattle.hir_items.specs.Setting.{setting}
use Rattle.hir_items.proofs.functions.lower_free_function.Goals as goal

pub lower_function-requires-clause-sound : goal.lower_function-requires-clause-sound
lower_function-requires-clause-sound g c = All-head IsSoundEnvironment c.args.item.now.lifetimes [] c.requires.sound

pub returns-clause-made : goal.returns-clause-made
returns-clause-made g c = λ names is.
    let s = setting (g.V.AttributeValidator.meaning c.args.lent.now.validator.now) c.args.lent.now names in
    let item = c.args.item.now in
    let start = item_start c.args.module_set.now in
    and_so_of c.lower_function.result
    (λ made told.
    told
    ∙ ap (λ (set : Attrs). unless_told (function_errors s.backend s.support s.config s.catalog names set item) (function_form s.backend s.catalog names set item)) c.in_ok-parent.ensures
    ∙ as_reported c.args.errors.now.place.«module» item.name (function_errors s.backend s.support s.config s.catalog names start item) (function_form s.backend s.catalog names start item))
    (c.lower_function.ensures.made names is)

pub returns-clause-kept : goal.returns-clause-kept
returns-clause-kept g c =
    held_on c.args.errors.now c.set_item.new.self c.lower_function.new.errors (ap (λ (h : Held). h.reports) c.set_item.ensures) c.lower_function.ensures.kept
