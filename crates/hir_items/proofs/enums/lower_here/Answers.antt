use Rattle.std.proofs.Common.{◌≡◌, ℕ, List, ◌++◌, map, Some, ap, sym, subst}
use Rattle.std.specs.List.{All}
use Rattle.std.specs.Prelude.{IfOk}
use Rattle.bridge_decl.specs.Lifetimes.{IsSoundEnvironment}
use Rattle.bridge_decl.specs.declared.methods.Method.{Method}
use Rattle.hir_heads.specs.Heads.{notes_errors, notes_form}
use Rattle.hir_heads.specs.declared.notes.Notes.{Notes}
use Rattle.hir_mark_contexts.specs.declared.contexts.MarkContext.TheVariants as marked
use Rattle.hir_methods.proofs.Outcomes.{and_so}
use Rattle.hir_reports.specs.Store.{Held}
use Rattle.hir_reports.specs.declared.report.LoweringError.{LoweringError}
use Rattle.hir_reports.specs.declared.report.LoweringReport.{LoweringReport}
use Rattle.hir_items.proofs.HoldLemmas.{held_on}
use Rattle.hir_items.proofs.ItemLemmas.{Parts, defined_on, item_kept, item_made, item_told, noted_kept, one_given}
use Rattle.hir_items.specs.Inheriting.{item_marks, item_start}
use Rattle.hir_items.specs.Setting.{setting}
use Rattle.hir_items.specs.TypeMethods.{type_method_form, type_method_reports}
use Rattle.hir_items.specs.inside.Reported.{GivenUnlessReported}
use Rattle.hir_items.specs.Enums.{enum_own_errors, enum_reports}
use Rattle.hir_items.specs.inside.EnumParts.{defined_enum, enum_own_form}
use Rattle.hir_items.proofs.enums.lower_here.Goals as goal

pub lower_type_methods-methods-requires-clause-sound : goal.lower_type_methods-methods-requires-clause-sound
lower_type_methods-methods-requires-clause-sound g c =
    subst (λ (ms : List Method). All IsSoundEnvironment (map (λ (m : Method). m.lifetime_env) ms)) (sym c.as_slice-methods.ensures)
    c.requires.sound

pub returns-in_err-notes-clause-kept : goal.returns-in_err-notes-clause-kept
returns-in_err-notes-clause-kept g c =
    noted_kept c.args.errors.now c.set_item.new.self c.lower_type_notes.new.errors c.as_str.result.now c.set_item.ensures c.in_err-notes.ensures.kept

pub returns-in_err-own-clause-kept : goal.returns-in_err-own-clause-kept
returns-in_err-own-clause-kept g c =
    held_on c.args.errors.now c.set_item.new.self c.lower_own.new.errors (ap (λ (h : Held). h.reports) c.set_item.ensures)
    (λ earlier keeps. c.in_err-own.ensures.kept earlier (c.in_ok-notes.ensures.kept earlier keeps))

pub returns-clause-told : goal.returns-clause-told
returns-clause-told g c = λ names is.
    let s = setting (g.V.AttributeValidator.meaning c.args.lent.now.validator.now) c.args.lent.now names in
    let item = c.args.item.now in
    let set = c.args.module_set.now in
    let of_notes = notes_errors s.backend marked.Enum (item_start set) item.docs item.attrs in
    let of_own : Notes → List LoweringError = λ n. enum_own_errors s.backend n.attrs item in
    let of_methods : Notes → List Method → List (List ℕ) → List ℕ → List LoweringReport = λ n ms path name. type_method_reports s path name c.args.place set n.attrs ms in
    let parts : Parts of_notes of_own of_methods c.in_ok-notes.notes (notes_form s.backend (item_start set) item.docs item.attrs) c.as_slice-methods.result.now item.methods
    c.as_str.result.now item.name c.args.errors.now c.set_item.new.self c.lower_type_notes.new.errors c.lower_own.new.errors = record {
      reads = c.in_ok-notes.ensures.made;
      lends = c.as_slice-methods.ensures;
      shows = c.as_str.ensures;
      goes = c.set_item.ensures;
      first = c.in_ok-notes.ensures.told;
      second = c.in_ok-own.ensures.told;
    } in
    defined_on (c.lower_type_methods-methods.new.errors.reports ≡ c.args.errors.now.reports ++ enum_reports s c.args.errors.now.place.«module» c.args.place set item)
    defined_enum c.in_ok-notes.notes c.in_ok-own.own c.lower_type_methods-methods.result c.define.result c.define.ensures
    (and_so c.lower_type_methods-methods.result (item_told of_notes of_own of_methods parts c.lower_type_methods-methods.new.errors) (c.lower_type_methods-methods.ensures.told names is))

pub returns-clause-made : goal.returns-clause-made
returns-clause-made g c = λ names is.
    let s = setting (g.V.AttributeValidator.meaning c.args.lent.now.validator.now) c.args.lent.now names in
    let item = c.args.item.now in
    let set = c.args.module_set.now in
    let of_notes = notes_errors s.backend marked.Enum (item_start set) item.docs item.attrs in
    let of_own : Notes → List LoweringError = λ n. enum_own_errors s.backend n.attrs item in
    let of_methods : Notes → List Method → List (List ℕ) → List ℕ → List LoweringReport = λ n ms path name. type_method_reports s path name c.args.place set n.attrs ms in
    let parts : Parts of_notes of_own of_methods c.in_ok-notes.notes (notes_form s.backend (item_start set) item.docs item.attrs) c.as_slice-methods.result.now item.methods
    c.as_str.result.now item.name c.args.errors.now c.set_item.new.self c.lower_type_notes.new.errors c.lower_own.new.errors = record {
      reads = c.in_ok-notes.ensures.made;
      lends = c.as_slice-methods.ensures;
      shows = c.as_str.ensures;
      goes = c.set_item.ensures;
      first = c.in_ok-notes.ensures.told;
      second = c.in_ok-own.ensures.told;
    } in
    let marks = item_marks s.backend set item.attrs in
    let made =
    item_made of_notes of_own of_methods parts defined_enum (λ (n : Notes). Some (enum_own_form s.backend n.attrs item)) (λ (n : Notes) (ms : List Method). type_method_form s c.args.place set n.attrs ms)
    c.in_ok-own.own c.lower_type_methods-methods.result c.define.result (c.in_ok-own.ensures.made) (c.lower_type_methods-methods.ensures.made names is) c.define.ensures in
    subst (λ form. IfOk c.define.result (GivenUnlessReported (enum_reports s c.args.errors.now.place.«module» c.args.place set item) form))
    (one_given (defined_enum (notes_form s.backend (item_start set) item.docs item.attrs)) (enum_own_form s.backend marks item) (type_method_form s c.args.place set marks item.methods)) made

pub returns-clause-kept : goal.returns-clause-kept
returns-clause-kept g c =
    item_kept c.args.errors.now c.set_item.new.self c.lower_type_notes.new.errors c.lower_own.new.errors c.lower_type_methods-methods.new.errors c.as_str.result.now c.set_item.ensures
    c.in_ok-notes.ensures.kept c.in_ok-own.ensures.kept c.lower_type_methods-methods.ensures.kept
