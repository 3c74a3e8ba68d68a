use Rattle.std.proofs.Common.{◌≡◌, ◌++◌, List, Option, subst, sym, ap, ◌∙◌}
use Rattle.std.specs.Prelude.{ℕ, All, option_map}
use Rattle.std.proofs.lemmas.List.Elements.{All-head, All-tail}
use Rattle.bridge_decl.specs.Lifetimes.{IsSoundEnvironment}
use Rattle.bridge_decl.specs.declared.traits.TraitMethod.{TraitMethod}
use Rattle.hir_attrs.specs.Reading.{marks_of}
use Rattle.hir_attrs.specs.declared.attrs.Attrs.{Attrs}
use Rattle.hir_heads.specs.Heads.{notes_form}
use Rattle.hir_items.specs.Placing.{where_enabled}
use Rattle.hir_items.specs.inside.Reported.{GivenUnlessReported}
use Rattle.hir_methods.specs.Choosing.{paired}
use Rattle.hir_reports.specs.Store.{Keeps, added, at_item}
use Rattle.hir_reports.specs.declared.report.LoweringReport.{LoweringReport}
use Rattle.hir_types.specs.declared.callbacks.Callback.{Callback}
use Rattle.hir_traits.proofs.ReportLemmas.{holds_at_item, made_within, told_within}
use Rattle.hir_traits.proofs.SoundLemmas.{each_sound}
use Rattle.hir_traits.specs.Traits.{own_trait_errors, trait_methods_form, trait_methods_reports}
use Rattle.hir_traits.specs.inside.Parts.{declared_names, trait_of_parts}
use Rattle.hir_traits.proofs.traits.lower_whole.Goals as goal

pub lower_own-requires : goal.lower_own-requires
lower_own-requires g c = All-head IsSoundEnvironment _ _ c.requires.sound

pub lower_methods-requires-clause-sound : goal.lower_methods-requires-clause-sound
lower_methods-requires-clause-sound g c =
    subst (All (λ (m : TraitMethod). IsSoundEnvironment m.lifetimes)) (sym c.as_slice-methods.ensures) (each_sound c.args.item.now.methods (All-tail IsSoundEnvironment _ _ c.requires.sound))

pub returns-in_err-head-clause-kept : goal.returns-in_err-head-clause-kept
returns-in_err-head-clause-kept g c = λ earlier holds.
    holds_at_item earlier c.args.errors.now c.lower_own.new.errors c.as_str.result.now holds
    (λ before keeps. c.lower_own.ensures.kept before (subst (Keeps before) (sym c.set_item.ensures) keeps))

pub returns-in_err-methods-clause-kept : goal.returns-in_err-methods-clause-kept
returns-in_err-methods-clause-kept g c = λ earlier holds.
    c.lower_methods.ensures.kept earlier
    (holds_at_item earlier c.args.errors.now c.lower_own.new.errors c.as_str.result.now holds
    (λ before keeps. c.lower_own.ensures.kept before (subst (Keeps before) (sym c.set_item.ensures) keeps)))

pub returns-clause-kept : goal.returns-clause-kept
returns-clause-kept g c = λ earlier holds.
    c.lower_methods.ensures.kept earlier
    (holds_at_item earlier c.args.errors.now c.lower_own.new.errors c.as_str.result.now holds
    (λ before keeps. c.lower_own.ensures.kept before (subst (Keeps before) (sym c.set_item.ensures) keeps)))

pub returns-clause-told : goal.returns-clause-told
returns-clause-told g c = λ names is.
    let lowering = c.args.lowering.now in
    let backend = g.V.AttributeValidator.meaning lowering.validator.now in
    let item = c.args.item.now in
    let old = c.args.errors.now in
    let mid = c.lower_own.new.errors in
    let own = own_trait_errors backend lowering.support.now c.args.start item in
    let rest : Attrs → List TraitMethod → List (List ℕ) → List ℕ → List LoweringReport = λ attrs methods path name.
    trait_methods_reports backend lowering.support.now lowering.config lowering.catalog.now names c.args.place attrs path name (where_enabled attrs methods) in
    told_within old mid c.lower_methods.new.errors.reports item.name own (rest (marks_of backend item.attrs c.args.start) item.methods)
    (c.in_ok-head.ensures.told ∙ ap (λ h. added h own) (c.set_item.ensures ∙ ap (at_item old) c.as_str.ensures))
    (c.in_ok-methods.ensures.told names is
    ∙ ap (λ attrs. mid.reports ++ rest attrs c.as_slice-methods.result.now mid.place.«module» mid.place.item) (ap (λ notes. notes.attrs) c.in_ok-head.ensures.notes)
    ∙ ap (λ methods. mid.reports ++ rest (marks_of backend item.attrs c.args.start) methods mid.place.«module» mid.place.item) c.as_slice-methods.ensures)

pub returns-clause-made : goal.returns-clause-made
returns-clause-made g c = λ names is none.
    let lowering = c.args.lowering.now in
    let backend = g.V.AttributeValidator.meaning lowering.validator.now in
    let item = c.args.item.now in
    let old = c.args.errors.now in
    let mid = c.lower_own.new.errors in
    let marks = marks_of backend item.attrs c.args.start in
    let own = own_trait_errors backend lowering.support.now c.args.start item in
    let notes = notes_form backend c.args.start item.docs item.attrs in
    let head = c.in_ok-head.head in
    let made = c.in_ok-methods.methods in
    let before : mid ≡ added (at_item old item.name) own =
    c.in_ok-head.ensures.told ∙ ap (λ h. added h own) (c.set_item.ensures ∙ ap (at_item old) c.as_str.ensures) in
    let rest : Attrs → List TraitMethod → List (List ℕ) → List ℕ → List LoweringReport = λ attrs methods path name.
    trait_methods_reports backend lowering.support.now lowering.config lowering.catalog.now names c.args.place attrs path name (where_enabled attrs methods) in
    let form : Attrs → List TraitMethod → Option (List Callback) = λ attrs methods.
    trait_methods_form backend lowering.catalog.now names c.args.place attrs (where_enabled attrs methods) in
    let given : GivenUnlessReported (rest marks item.methods old.place.«module» item.name) (form marks item.methods) made =
    subst (λ h. GivenUnlessReported (rest marks item.methods h.place.«module» h.place.item) (form marks item.methods) made) before
    (subst (λ methods. GivenUnlessReported (rest marks methods mid.place.«module» mid.place.item) (form marks methods) made) c.as_slice-methods.ensures
    (subst (λ attrs. GivenUnlessReported (rest attrs c.as_slice-methods.result.now mid.place.«module» mid.place.item) (form attrs c.as_slice-methods.result.now) made)
    (ap (λ n. n.attrs) c.in_ok-head.ensures.notes) (c.in_ok-methods.ensures.made names is))) in
    c.assembled.ensures ∙ ap (λ n. option_map (λ p. trait_of_parts n p.0 p.1) (paired head.names made)) c.in_ok-head.ensures.notes
    ∙ made_within (trait_of_parts notes) (declared_names item) (form marks item.methods) head.names made old.place.«module» item.name own (rest marks item.methods old.place.«module» item.name)
    c.in_ok-head.ensures.made given none
