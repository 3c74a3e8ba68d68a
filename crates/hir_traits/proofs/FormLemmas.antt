-- What is told nothing of has a form.
use Rattle.std.proofs.Common.{◌≡◌, List, [], ◌∷◌, ◌++◌, Bool, true, false, map, Option, Some, None, Result, Ok, Err, is_some, refl, sym, ap, ◌∙◌}
use Rattle.std.specs.Prelude.{ℕ, IfErr, not, if◌then◌else◌}
use Rattle.std.specs.List.{flat_map}
use Rattle.bridge_ast.specs.declared.place.ItemPlace.{ItemPlace}
use Rattle.bridge_decl.specs.declared.traits.Trait.{Trait}
use Rattle.bridge_decl.specs.declared.traits.TraitMethod.{TraitMethod}
use Rattle.bridge_grid.specs.Params.{callback_param_faults}
use Rattle.bridge_grid.specs.Returns.{returned_faults}
use Rattle.bridge_order.specs.declared.catalog.Catalog.{Catalog}
use Rattle.bridge_rules.specs.declared.position.Position.TheVariants as position
use Rattle.hir_attrs.specs.Reading.{marks_errors, marks_of}
use Rattle.hir_attrs.specs.declared.attrs.Attrs.{Attrs}
use Rattle.hir_backends.specs.Backend.{Backend}
use Rattle.hir_backends.specs.declared.support.BackendAttrSupport.{BackendAttrSupport}
use Rattle.hir_docs.specs.Docs.{docs_errors}
use Rattle.hir_form.proofs.EmptyLemmas.{all_more, both_there, map_given}
use Rattle.hir_form.proofs.ParamLemmas.{callback_return_given, out_param_given}
use Rattle.hir_form.specs.ParamForms.{all_given, out_type_form}
use Rattle.hir_heads.specs.Heads.{lifetime_errors}
use Rattle.hir_heads.specs.Names.{name_errors}
use Rattle.hir_items.specs.Placing.{at_item_itself, at_method_of, where_enabled}
use Rattle.hir_config.specs.declared.config.LoweringConfig.{LoweringConfig}
use Rattle.hir_methods.proofs.DisabledLemmas.{enabled_all}
use Rattle.hir_methods.proofs.FormLemmas.{fault_told, tells_itself, whole_lowered}
use Rattle.hir_methods.proofs.StageLemmas.{unfaulted}
use Rattle.hir_methods.specs.Untyped.{unless_disabled}
use Rattle.hir_number.proofs.ElisionLemmas.{none_of, trait_method_elided}
use Rattle.hir_number.proofs.FaultLemmas.{FineBy, IsLowered}
use Rattle.hir_number.specs.Breaches.{Broken, trait_method_breaches}
use Rattle.hir_number.specs.Faults.{IsOfElision}
use Rattle.hir_number.specs.Naming.{Naming}
use Rattle.hir_number.specs.Numbers.{signature_numbers}
use Rattle.hir_number.specs.Shapes.{NumberLists}
use Rattle.hir_number.specs.Signatures.{trait_method_uses}
use Rattle.hir_number.specs.declared.fault.NumberFault.{NumberFault}
use Rattle.hir_number.specs.declared.numbered.NumberedType.{NumberedType}
use Rattle.hir_number.specs.declared.trait_methods.NumberedTraitMethod.{NumberedTraitMethod}
use Rattle.hir_reports.specs.Store.{at_place}
use Rattle.hir_reports.specs.declared.report.LoweringError.{LoweringError}
use Rattle.hir_stages.specs.Numbering.{filled_trait_method}
use Rattle.hir_traits.proofs.WalkLemmas.{both_none, untold}
use Rattle.hir_traits.specs.TraitMethods.{enabled_trait_method_errors, method_callback, param_name_errors, trait_method_errors, trait_method_form, trait_method_head, trait_method_head_errors}
use Rattle.hir_traits.specs.TraitStages.{trait_breached_stage, trait_named_stage, trait_numbered_stage, trait_stage_errors, trait_stage_form}
use Rattle.hir_traits.specs.TraitTypes.{trait_judged_errors, trait_method_type_errors, trait_method_types, trait_output_errors, trait_output_form, trait_param_errors, trait_params_form, trait_types_form}
use Rattle.hir_traits.specs.Traits.{enabled_methods, own_trait_errors, trait_form, trait_methods_form, trait_methods_reports, trait_reports, trait_with}

-- ---- types that are judged

module _ (support : BackendAttrSupport) (config : LoweringConfig) (catalog : Catalog) where
  params_formed : (types : List NumberedType) → flat_map (trait_param_errors support config catalog) types ≡ [] → is_some (trait_params_form catalog types) ≡ true
  params_formed [] none = refl
  params_formed (ty ∷ types) none =
      let parts = both_none (trait_param_errors support config catalog ty) (flat_map (trait_param_errors support config catalog) types) none in
      all_more (out_type_form catalog ty) (map (out_type_form catalog) types)
      (out_param_given support config catalog ty (unfaulted (callback_param_faults support config catalog ty) parts.0)) (params_formed types parts.1)

  output_formed : (output : Option NumberedType) → trait_output_errors support catalog output ≡ [] → is_some (trait_output_form catalog output) ≡ true
  output_formed None none = refl
  output_formed (Some ty) none = callback_return_given support catalog ty (unfaulted (returned_faults support catalog position.CallbackReturn ty) none)

  judged_formed : (n : NumberedTraitMethod) → trait_judged_errors support config catalog n ≡ [] → is_some (trait_types_form catalog n) ≡ true
  judged_formed n none =
      let parts = both_none (flat_map (trait_param_errors support config catalog) n.params) (trait_output_errors support catalog n.output) none in
      both_there _ (trait_params_form catalog n.params) (trait_output_form catalog n.output) (params_formed n.params parts.0) (output_formed n.output parts.1)

-- ---- by the stage

module _ {A : Type 0} (judged : NumberedTraitMethod → List LoweringError) (form : NumberedTraitMethod → Option A)
    (fine : (n : NumberedTraitMethod) → judged n ≡ [] → is_some (form n) ≡ true)
  where
    numbered_formed :
        (bs : List Broken) (filled : NumberLists → NumberedTraitMethod) (q : Result NumberLists NumberFault) → FineBy IsLowered q → IfErr q IsOfElision
        → trait_stage_errors bs judged (trait_numbered_stage filled q) ≡ [] → is_some (trait_stage_form form (trait_numbered_stage filled q)) ≡ true
    numbered_formed bs filled (Ok numbers) lowered of none = fine (filled numbers) none
    numbered_formed bs filled (Err e) lowered of none = absurd (fault_told e lowered of none)

    stage_formed :
        (bs : List Broken) (es : List LoweringError) (filled : NumberLists → NumberedTraitMethod) (q : Result NumberLists NumberFault) → FineBy IsLowered q
        → (bs ≡ [] → IfErr q IsOfElision) → es ≡ [] → trait_stage_errors bs judged (trait_breached_stage (trait_named_stage (trait_numbered_stage filled q) es) bs) ≡ []
        → is_some (trait_stage_form form (trait_breached_stage (trait_named_stage (trait_numbered_stage filled q) es) bs)) ≡ true
    stage_formed (b ∷ bs) es filled q lowered of named none = absurd cc
    stage_formed [] (e ∷ es) filled q lowered of named none = absurd cc
    stage_formed [] [] filled q lowered of named none = numbered_formed [] filled q lowered (of refl) none

-- ---- methods

module _ (backend : Backend) (support : BackendAttrSupport) (config : LoweringConfig) (catalog : Catalog) (names : Naming) (place : ItemPlace) where
  types_formed : (method : TraitMethod) → lifetime_errors method.lifetimes ≡ [] → trait_method_type_errors support config catalog names place method ≡ []
      → is_some (trait_method_types catalog names place method) ≡ true
  types_formed method named none =
      let q = signature_numbers method.lifetimes (trait_method_uses names method) in
      let lowered = whole_lowered method.lifetimes (trait_method_uses names method) in
      stage_formed (trait_judged_errors support config catalog) (trait_types_form catalog) (judged_formed support config catalog) (trait_method_breaches names place method)
      (lifetime_errors method.lifetimes) (filled_trait_method names method) q lowered
      (λ sound. trait_method_elided names place method q sound (tells_itself method.lifetimes q lowered)) named none

  enabled_formed : (attrs : Attrs) (method : TraitMethod) → enabled_trait_method_errors backend support config catalog names place method ≡ []
      → is_some (trait_method_form backend catalog names place attrs method) ≡ true
  enabled_formed attrs method none =
      let parts = none_of (trait_method_head_errors backend method) (trait_method_type_errors support config catalog names place method) none in
      let named = (none_of (docs_errors backend method.docs ++ name_errors method.name) (lifetime_errors method.lifetimes)
      (none_of (docs_errors backend method.docs ++ name_errors method.name ++ lifetime_errors method.lifetimes) (param_name_errors method.params) parts.0).0).1 in
      map_given (method_callback (marks_of backend method.attrs attrs) (trait_method_head backend method)) (trait_method_types catalog names place method) (types_formed method named parts.1)

  method_formed : (attrs : Attrs) (method : TraitMethod) → (marks_of backend method.attrs attrs).disable ≡ false → trait_method_errors backend support config catalog names place attrs method ≡ []
      → is_some (trait_method_form backend catalog names place attrs method) ≡ true
  method_formed attrs method on none =
      let marks = marks_of backend method.attrs attrs in
      let rest = enabled_trait_method_errors backend support config catalog names place method in
      enabled_formed attrs method (sym (enabled_all marks rest on) ∙ (none_of (marks_errors backend method.attrs attrs) (unless_disabled marks rest) none).1)

  module _ (attrs : Attrs) (path : List (List ℕ)) (item : List ℕ) where
    -- one more, by whether it is disabled
    one_formed : (method : TraitMethod) (methods : List TraitMethod) (off : Bool) → (marks_of backend method.attrs attrs).disable ≡ off
        → trait_method_errors backend support config catalog names place attrs method ≡ [] → is_some (trait_methods_form backend catalog names place attrs methods) ≡ true
        → is_some (trait_methods_form backend catalog names place attrs (method ∷ methods)) ≡ true
    one_formed method methods true off none rest =
        ap (λ b. is_some (all_given (map (trait_method_form backend catalog names place attrs)
        (if not b then method ∷ enabled_methods backend attrs methods else enabled_methods backend attrs methods)))) off ∙ rest
    one_formed method methods false on none rest =
        ap (λ b. is_some (all_given (map (trait_method_form backend catalog names place attrs)
        (if not b then method ∷ enabled_methods backend attrs methods else enabled_methods backend attrs methods)))) on
        ∙ all_more (trait_method_form backend catalog names place attrs method) (map (trait_method_form backend catalog names place attrs) (enabled_methods backend attrs methods))
        (method_formed attrs method on none) rest

    methods_formed : (methods : List TraitMethod) → trait_methods_reports backend support config catalog names place attrs path item methods ≡ []
        → is_some (trait_methods_form backend catalog names place attrs methods) ≡ true
    methods_formed [] none = refl
    methods_formed (method ∷ methods) none =
        let parts = both_none (at_method_of path item method.name (trait_method_errors backend support config catalog names place attrs method))
        (trait_methods_reports backend support config catalog names place attrs path item methods) none in
        one_formed method methods (marks_of backend method.attrs attrs).disable refl
        (untold (at_place path item (Some method.name)) (trait_method_errors backend support config catalog names place attrs method) parts.0) (methods_formed methods parts.1)

  -- ---- traits

  pub trait_formed : (start : Attrs) (path : List (List ℕ)) (item : Trait) → trait_reports backend support config catalog names place start path item ≡ []
      → is_some (trait_form backend catalog names place start item) ≡ true
  trait_formed start path item none =
      let attrs = marks_of backend item.attrs start in
      let methods = where_enabled attrs item.methods in
      let parts = both_none (at_item_itself path item.name (own_trait_errors backend support start item))
      (trait_methods_reports backend support config catalog names place attrs path item.name methods) none in
      map_given (trait_with backend attrs item) (trait_methods_form backend catalog names place attrs methods) (methods_formed attrs path item.name methods parts.1)
