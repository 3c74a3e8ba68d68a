-- A context of the made declarations breaks no rule: its types are such structs and an opaque, it has no traits, and its functions have few
-- leaves and plain types.
use Rattle.std.proofs.Common.{◌≡◌, ℕ, ◌≤◌, List, [], ◌∷◌, ◌++◌, length, map, Bool, true, false, Option, Some, None, refl, sym, ap, subst, ◌∙◌, arith}
use Rattle.std.specs.Prelude.{cond, option_and_then}
use Rattle.std.specs.List.{All, Contains, enumerate_from, flat_map}
use Rattle.std.proofs.lemmas.List.Elements.{All-append, All-contains, All-map, Contains-append_right}
use Rattle.bridge_ast.specs.declared.place.ItemPlace.{ItemPlace}
use Rattle.bridge_decl.specs.declared.modules.Item.{Item}
use Rattle.bridge_decl.specs.declared.modules.Module.{Module}
use Rattle.bridge_order.specs.declared.catalog.Catalog.{Catalog}
use Rattle.bridge_places.specs.Places.{places_of}
use Rattle.bridge_places.specs.declared.kinds.Kind.TheVariants as kind
use Rattle.bridge_report.specs.Callables.{Callable}
use Rattle.bridge_report.specs.InContext.{callables, enum_callables, function_callable, function_callables, opaque_callables, out_struct_callables, struct_callables}
use Rattle.bridge_validation.specs.LoweredContextBreaks.{CallableBreaks, LoweredContextBreaks}
use Rattle.bridge_validation.specs.Told.{is_type_method}
use Rattle.hir_backends.specs.Backend.{Backend}
use Rattle.hir_config.specs.declared.config.LoweringConfig.{LoweringConfig}
use Rattle.hir_context.specs.Iterating.{all_types, enum_entry, opaque_entry, out_struct_entry, struct_entry}
use Rattle.hir_context.specs.Lookups.{DefinedType, OutputStruct}
use Rattle.hir_context.specs.declared.parts.Definitions.{Definitions}
use Rattle.hir_definitions.specs.declared.definitions.EnumDef.{EnumDef}
use Rattle.hir_definitions.specs.declared.definitions.OpaqueDef.{OpaqueDef}
use Rattle.hir_definitions.specs.declared.definitions.TraitDef.{TraitDef}
use Rattle.hir_definitions.specs.declared.methods.Method.{Method}
use Rattle.hir_ids.specs.declared.ids.TypeId.{TypeId}
use Rattle.hir_lower.specs.Contexts.{StandForItems}
use Rattle.hir_lowering.specs.Interface.{Interface, setting_in}
use Rattle.hir_lowering.specs.Kinds.{ItemMaking, enum_made, function_made, opaque_made, out_struct_made, struct_made, trait_made}
use Rattle.hir_lowering.specs.Placing.{each_form, form_at, form_of, found_at}
use Rattle.hir_lowering.specs.Walks.{interface_of}
use Rattle.hir_modules.specs.ModuleMarks.{module_marks}
use Rattle.hir_number.specs.Naming.{Naming}
use Rattle.hir_reports.specs.declared.report.LoweringError.{LoweringError}
use Rattle.hir_reports.specs.declared.report.LoweringReport.{LoweringReport}
use Rattle.hir_skeleton.proofs.Members.{gives_there}
use Rattle.hir_usage_notes.specs.Notes.{enum_used, opaque_used, struct_used, usages_among}
use Rattle.bridge_measure.specs.Measured.{measured}
use Rattle.bridge_measure.specs.inside.Made.{AreAsMade}
use Rattle.bridge_measure.proofs.CountLemmas.{none_in}
use Rattle.bridge_measure.proofs.GivenLemmas.{all_anyway, given_all, none_never, numbered_all, used_all}
use Rattle.bridge_measure.proofs.LoweredLemmas.{Makes, functions_quiet, no_enums, no_out_structs, no_traits, opaques_quiet, structs_quiet}
use Rattle.bridge_measure.proofs.PlaceLemmas.{in_root}
use Rattle.bridge_measure.proofs.PlainLemmas.{IsQuiet, IsQuietFunction, IsQuietStruct, quiet_methods, signature_stands, type_stands}
use Rattle.bridge_measure.proofs.ReportLemmas.{AreFound}

-- a function with few leaves and plain types breaks no rule
callable_stands : (must_fail : Bool) (defs : Definitions) (c : Callable) (method : Method) (e : LoweringError)
    → length c.leaves ≤ 9 → is_type_method c.id ≡ false → IsQuietFunction method → ¬ (CallableBreaks must_fail defs c method e)
callable_stands must_fail defs c method _ few function quiet (CallableBreaks.too_many_leaves more) = omega (arith, more, few)
callable_stands must_fail defs c method _ few function quiet (CallableBreaks.elided_return breaks) =
    let both : true ≡ false = sym (ap is_type_method breaks.is_method) ∙ function in cc
callable_stands must_fail defs c method _ few function quiet (CallableBreaks.by_types e breaks) = signature_stands must_fail defs method e quiet breaks
callable_stands must_fail defs c method _ few function quiet (CallableBreaks.as_method e is breaks) = let both : true ≡ false = sym is ∙ function in cc

-- that of an enabled function is one of the callables
among_callables : (defs : Definitions) (numbered : ℕ × Method) → Contains (enumerate_from 0 defs.functions.defs) numbered → numbered.1.attrs.disable ≡ false
    → Contains (callables defs) (function_callable defs numbered)
among_callables defs numbered among enabled =
    let c = function_callable defs numbered in
    let all = enumerate_from 0 defs.functions.defs in
    let of_types =
    flat_map (struct_callables defs) (enumerate_from 0 defs.structs.defs)
    ++ flat_map (out_struct_callables defs) (enumerate_from 0 defs.out_structs.defs)
    ++ flat_map (opaque_callables defs) (enumerate_from 0 defs.opaques.defs)
    ++ flat_map (enum_callables defs) (enumerate_from 0 defs.enums.defs) in
    let itself : Contains (function_callables defs numbered) c =
    subst (λ b. Contains (cond b [] (c ∷ [])) c) (sym enabled) (0, omega arith, refl) in
    Contains-append_right of_types (flat_map (function_callables defs) all) c (gives_there (function_callables defs) all numbered c among itself)

module _ (count : ℕ) (backend : Backend) (config : LoweringConfig) (names : ℕ → Naming) (catalog : Catalog) (known : AreAsMade count (names 0) catalog)
    (found_is : AreFound count)
  where
    abbrev it : Interface
    it = interface_of (measured count) backend config names catalog

    -- ---- what is made at places

    module _ {D : Type 0} (P : D → Type 0) (made : ItemMaking D) (makes : Makes count P made) where
      by_found : (place : ItemPlace) (o : Option (Module × Item)) → found_at (measured count) place ≡ o
          → (d : D) → option_and_then (form_of it made place) o ≡ Some d → P d
      by_found place None is d given = none_never d given
      by_found place (Some m) is d given =
          let made_at = (found_is place m is).1 in
          makes (setting_in it place.«module») (subst (λ n. AreAsMade count (names n) catalog) (sym (in_root count place m.1 made_at)) known)
          place (module_marks backend (measured count) m.0) m.1 made_at d given

      all_made : (places : List ItemPlace) (ds : List D) → each_form it made places ≡ Some ds → All P ds
      all_made places ds given =
          given_all P (form_at it made) places
          (all_anyway (λ (place : ItemPlace). (d : D) → form_at it made place ≡ Some d → P d)
          (λ place d is. by_found place (found_at (measured count) place) refl d is) places) ds given

    -- ---- the definitions of a context

    module _ (defs : Definitions) (stand : StandForItems it defs) where
      all_structs : All IsQuietStruct defs.structs.defs
      all_structs =
          subst (All IsQuietStruct) (sym (stand.listed.structs.definitions ∙ stand.noted.structs))
          (used_all IsQuietStruct struct_used (λ usage def quiet. record { unasked = quiet.unasked; plain = quiet.plain; no_methods = quiet.no_methods })
          (usages_among stand.lowered).structs stand.lowered.structs.items
          (all_made IsQuietStruct struct_made (structs_quiet count) (places_of (measured count) kind.Struct) stand.lowered.structs.items stand.accepted.all.structs))

      all_opaques : All (λ (def : OpaqueDef). def.methods ≡ []) defs.opaques.defs
      all_opaques =
          subst (All (λ (def : OpaqueDef). def.methods ≡ [])) (sym (stand.listed.opaques.definitions ∙ stand.noted.opaques))
          (used_all (λ (def : OpaqueDef). def.methods ≡ []) opaque_used (λ usage def none. none)
          (usages_among stand.lowered).opaques stand.lowered.opaques.items
          (all_made (λ (def : OpaqueDef). def.methods ≡ []) opaque_made (opaques_quiet count) (places_of (measured count) kind.Opaque)
          stand.lowered.opaques.items stand.accepted.all.opaques))

      all_out_structs : All (λ (def : OutputStruct). ⊥) defs.out_structs.defs
      all_out_structs =
          subst (All (λ (def : OutputStruct). ⊥)) (sym (stand.listed.out_structs.definitions ∙ stand.noted.out_structs))
          (used_all (λ (def : OutputStruct). ⊥) struct_used (λ usage def never. never)
          (usages_among stand.lowered).out_structs stand.lowered.out_structs.items
          (all_made (λ (def : OutputStruct). ⊥) out_struct_made (no_out_structs count) (places_of (measured count) kind.OutStruct)
          stand.lowered.out_structs.items stand.accepted.all.out_structs))

      all_enums : All (λ (def : EnumDef). ⊥) defs.enums.defs
      all_enums =
          subst (All (λ (def : EnumDef). ⊥)) (sym (stand.listed.enums.definitions ∙ stand.noted.enums))
          (used_all (λ (def : EnumDef). ⊥) enum_used (λ usage def never. never)
          (usages_among stand.lowered).enums stand.lowered.enums.items
          (all_made (λ (def : EnumDef). ⊥) enum_made (no_enums count) (places_of (measured count) kind.Enum)
          stand.lowered.enums.items stand.accepted.all.enums))

      all_traits : All (λ (def : TraitDef). ⊥) defs.traits.defs
      all_traits =
          subst (All (λ (def : TraitDef). ⊥)) (sym (stand.listed.traits.definitions ∙ stand.noted.traits))
          (all_made (λ (def : TraitDef). ⊥) trait_made (no_traits count) (places_of (measured count) kind.Trait)
          stand.lowered.traits.items stand.accepted.all.traits)

      all_functions : All IsQuietFunction defs.functions.defs
      all_functions =
          subst (All IsQuietFunction) (sym (stand.listed.functions.definitions ∙ stand.noted.functions))
          (all_made IsQuietFunction function_made (functions_quiet count) (places_of (measured count) kind.Function)
          stand.lowered.functions.items stand.accepted.all.functions)

      abbrev IsQuietEntry : TypeId × DefinedType → Type 0
      IsQuietEntry entry = IsQuiet entry.1

      all_quiet : All IsQuietEntry (all_types defs)
      all_quiet =
          let structs = enumerate_from 0 defs.structs.defs in
          let out_structs = enumerate_from 0 defs.out_structs.defs in
          let opaques = enumerate_from 0 defs.opaques.defs in
          let enums = enumerate_from 0 defs.enums.defs in
          All-append IsQuietEntry (map struct_entry structs) _
          (All-map IsQuietEntry struct_entry structs (numbered_all IsQuietStruct 0 defs.structs.defs all_structs))
          (All-append IsQuietEntry (map out_struct_entry out_structs) _
          (All-map IsQuietEntry out_struct_entry out_structs (numbered_all (λ (def : OutputStruct). ⊥) 0 defs.out_structs.defs all_out_structs))
          (All-append IsQuietEntry (map opaque_entry opaques) _
          (All-map IsQuietEntry opaque_entry opaques (numbered_all (λ (def : OpaqueDef). def.methods ≡ []) 0 defs.opaques.defs all_opaques))
          (All-map IsQuietEntry enum_entry enums (numbered_all (λ (def : EnumDef). ⊥) 0 defs.enums.defs all_enums))))

      -- ---- the whole

      -- where its callables have few leaves, for a backend whose callbacks must be able to fail, or may not
      pub context_stands : All (λ (c : Callable). length c.leaves ≤ 9) (callables defs)
          → (must_fail : Bool) (report : LoweringReport) → ¬ (LoweredContextBreaks must_fail defs report)
      context_stands few must_fail _ (LoweredContextBreaks.of_type entry e among breaks) =
          type_stands must_fail defs entry.1 e (All-contains IsQuietEntry (all_types defs) entry all_quiet among) breaks
      context_stands few must_fail _ (LoweredContextBreaks.of_method entry numbered e among method breaks) =
          let none = quiet_methods entry.1 (All-contains IsQuietEntry (all_types defs) entry all_quiet among) in
          none_in numbered (subst (λ methods. Contains (enumerate_from 0 methods) numbered) none method)
      context_stands few must_fail _ (LoweredContextBreaks.of_trait_method numbered method e among given breaks) =
          absurd (All-contains (λ (n : ℕ × TraitDef). ⊥) (enumerate_from 0 defs.traits.defs) numbered
          (numbered_all (λ (def : TraitDef). ⊥) 0 defs.traits.defs all_traits) among)
      context_stands few must_fail _ (LoweredContextBreaks.of_function numbered e among enabled breaks) =
          let c = function_callable defs numbered in
          callable_stands must_fail defs c numbered.1 e
          (All-contains (λ (d : Callable). length d.leaves ≤ 9) (callables defs) c few (among_callables defs numbered among enabled)) refl
          (All-contains (λ (n : ℕ × Method). IsQuietFunction n.1) (enumerate_from 0 defs.functions.defs) numbered
          (numbered_all IsQuietFunction 0 defs.functions.defs all_functions) among) breaks
