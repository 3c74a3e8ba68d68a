-- Fields of which nothing is told have a form.
use Rattle.std.proofs.Common.{◌≡◌, ℕ, suc, List, [], ◌∷◌, length, map, Option, true, Result, Ok, Err, is_some, arith, refl, ap, ◌∙◌}
use Rattle.std.specs.Prelude.{false, IfErr, nat_lt, if◌then◌else◌}
use Rattle.std.proofs.lemmas.List.{length-map}
use Rattle.bridge_decl.specs.declared.lifetimes.LifetimeEnv.{LifetimeEnv}
use Rattle.bridge_decl.specs.declared.structs.Field.{Field}
use Rattle.bridge_decl.specs.declared.structs.Struct.{Struct}
use Rattle.bridge_grid.specs.Faults.{type_faults}
use Rattle.bridge_grid.specs.Telling.{fault_error}
use Rattle.bridge_grid.specs.declared.fault.TypeFault.{TypeFault}
use Rattle.bridge_grid.specs.declared.part.Part.TheVariants.{Whole}
use Rattle.bridge_order.specs.declared.catalog.Catalog.{Catalog}
use Rattle.bridge_rules.specs.declared.position.Position.TheVariants as position
use Rattle.hir_backends.specs.Backend.{Backend}
use Rattle.hir_elide.specs.Numbering.{most}
use Rattle.hir_elide.specs.declared.fault.ElideFault.TheVariants as elide
use Rattle.hir_fields.specs.Fields.{fields_errors, fields_form, fields_with, out_fields_errors, out_fields_form, out_type_errors, struct_type_errors}
use Rattle.hir_fields.specs.Heads.{field_heads_errors}
use Rattle.hir_fields.specs.Safety.{safety_errors}
use Rattle.hir_fields.specs.Types.{TypeErrors, each_errors, else_told, field_types_form, numbered_errors, numbered_form, types_errors, where_named}
use Rattle.hir_form.proofs.EmptyLemmas.{all_more, map_given}
use Rattle.hir_form.proofs.OutLemmas.{OutField}
use Rattle.hir_form.proofs.ParamLemmas.{accepts_out, field_given}
use Rattle.hir_form.specs.ParamForms.{all_given, field_form, out_type_form}
use Rattle.hir_heads.specs.Heads.{lifetime_errors}
use Rattle.hir_mark_contexts.specs.declared.contexts.MarkContext.TheVariants as marked
use Rattle.hir_number.proofs.ElisionLemmas.{fields_elided, none_of}
use Rattle.hir_number.proofs.FaultLemmas.{FineBy, IsLowered, answers_lowered}
use Rattle.hir_number.specs.Breaches.{Broken, field_breaches}
use Rattle.hir_number.specs.Faults.{FaultTold, IsOfElision}
use Rattle.hir_number.specs.Naming.{Naming}
use Rattle.hir_number.specs.Numbers.{all_answers, answers, signature_numbers}
use Rattle.hir_number.specs.Shapes.{NumberLists, shape}
use Rattle.hir_number.specs.Signatures.{Placed, field_uses}
use Rattle.hir_number.specs.declared.fault.NumberFault.{NumberFault}
use Rattle.hir_number.specs.declared.fault.NumberFault.TheVariants as fault
use Rattle.hir_number.specs.declared.numbered.NumberedType.{NumberedType}
use Rattle.hir_reports.specs.declared.report.LoweringError.{LoweringError}
use Rattle.hir_signatures.specs.Errors.{breach_error, number_errors}
use Rattle.hir_stages.specs.Filling.{Fill, fill_each, fill_type}
use Rattle.hir_stages.specs.Numbering.{filled_fields}

-- what numbers are refused for is a fault of uses
whole_lowered : (declared : LifetimeEnv) (us : List Placed) → FineBy IsLowered (signature_numbers declared us)
whole_lowered declared us =
    elim (nat_lt most (length declared.nodes)) as (λ b. FineBy IsLowered (if b then Err (fault.Elide elide.TooManyLifetimes) else all_answers (answers declared us)))
    [ true ↦ tt | false ↦ answers_lowered declared us ]

tells_itself : {A : Type 0} (declared : LifetimeEnv) (q : Result A NumberFault) → FineBy IsLowered q → IfErr q (λ e. FaultTold declared e q)
tells_itself declared (Ok x) fine = tt
tells_itself declared (Err fault.NoMemory) fine = tt
tells_itself declared (Err fault.UnresolvedPath) fine = refl
tells_itself declared (Err fault.LifetimeArity) fine = refl
tells_itself declared (Err (fault.Elide elide.LifetimeUnknown)) fine = refl
tells_itself declared (Err (fault.Elide elide.AnonymousInDefinition)) fine = refl
tells_itself declared (Err (fault.Elide elide.ElisionNoSource)) fine = refl
tells_itself declared (Err (fault.Elide elide.ElisionAmbiguous)) fine = refl
tells_itself declared (Err (fault.Elide elide.TooManyLifetimes)) fine = refl
tells_itself declared (Err (fault.Elide elide.BadIdent)) fine = absurd fine
tells_itself declared (Err (fault.Elide elide.NoMemory)) fine = absurd fine

-- such a fault is told
fault_told : (e : NumberFault) → IsLowered e → IsOfElision e → number_errors e ≡ [] → ⊥
fault_told fault.NoMemory lowered of none = lowered
fault_told fault.UnresolvedPath lowered of none = of
fault_told fault.LifetimeArity lowered of none = of
fault_told (fault.Elide elide.LifetimeUnknown) lowered of none = of
fault_told (fault.Elide elide.AnonymousInDefinition) lowered of none = absurd cc
fault_told (fault.Elide elide.ElisionNoSource) lowered of none = absurd cc
fault_told (fault.Elide elide.ElisionAmbiguous) lowered of none = absurd cc
fault_told (fault.Elide elide.TooManyLifetimes) lowered of none = absurd cc
fault_told (fault.Elide elide.BadIdent) lowered of none = lowered
fault_told (fault.Elide elide.NoMemory) lowered of none = lowered

-- each part is filled
fill_long : {A : Type 0} (fs : List (Fill A)) (ns : NumberLists) → length (fill_each fs ns).0 ≡ length fs
fill_long [] ns = refl
fill_long (f ∷ fs) ns = ap (λ n. suc n) (fill_long fs (f ns).1)

-- where neither breaches nor what stands behind them is told
nothing_else : (bs : List Broken) (names more : List LoweringError) → names ≡ [] → else_told (map breach_error bs) (where_named names more) ≡ [] → (bs ≡ []) × (more ≡ [])
nothing_else [] [] more named none = (refl, none)
nothing_else [] (e ∷ es) more named none = absurd cc
nothing_else (b ∷ bs) names more named none = absurd cc

module _ {T : Type 0} (errors : TypeErrors) (form : NumberedType → Option T) (fine : (name : List ℕ) (ty : NumberedType) → errors name ty ≡ [] → is_some (form ty) ≡ true) where
  each_formed : (fields : List Field) (types : List NumberedType) → length types ≡ length fields → each_errors errors fields types ≡ [] → is_some (all_given (map form types)) ≡ true
  each_formed fields [] same none = refl
  each_formed [] (ty ∷ types) same none = absurd (omega arith)
  each_formed (field ∷ fields) (ty ∷ types) same none =
      let parts = none_of (errors field.name ty) (each_errors errors fields types) none in
      all_more (form ty) (map form types) (fine field.name ty parts.0) (each_formed fields types (omega arith) parts.1)

  by_numbers :
      (names : Naming) (item : Struct) (q : Result NumberLists NumberFault) → FineBy IsLowered q → IfErr q IsOfElision → numbered_errors errors names item q ≡ []
      → is_some (numbered_form form names item q) ≡ true
  by_numbers names item (Ok numbers) lowered of none =
      each_formed item.fields (filled_fields names item numbers)
      (fill_long (map fill_type (map (λ (field : Field). shape names field.ty) item.fields)) numbers ∙ length-map (map (λ (field : Field). shape names field.ty) item.fields) fill_type
      ∙ length-map item.fields (λ (field : Field). shape names field.ty)) none
  by_numbers names item (Err e) lowered of none = absurd (fault_told e lowered of none)

  pub types_formed : (names : Naming) (item : Struct) → lifetime_errors item.lifetimes ≡ [] → types_errors errors names item ≡ [] → is_some (field_types_form form names item) ≡ true
  types_formed names item named none =
      let q = signature_numbers item.lifetimes (field_uses names item.fields) in
      let lowered = whole_lowered item.lifetimes (field_uses names item.fields) in
      let parts = nothing_else (field_breaches names item) (lifetime_errors item.lifetimes) (numbered_errors errors names item q) named none in
      by_numbers names item q lowered (fields_elided names item q parts.0 (tells_itself item.lifetimes q lowered)) parts.1

unfaulted : (faults : List TypeFault) → map fault_error faults ≡ [] → faults ≡ []
unfaulted [] h = refl
unfaulted (f ∷ fs) h = absurd cc

-- of a struct
pub fields_formed :
    (backend : Backend) (catalog : Catalog) (names : Naming) (item : Struct) → lifetime_errors item.lifetimes ≡ [] → fields_errors backend catalog names item ≡ []
    → is_some (fields_form backend catalog names item) ≡ true
fields_formed backend catalog names item named none =
    map_given (fields_with backend item.fields) (field_types_form (field_form catalog) names item)
    (types_formed (struct_type_errors backend.supports catalog) (field_form catalog)
    (λ name ty untold.
    let faults = type_faults backend.supports catalog position.Field Whole ty in
    field_given backend.supports catalog ty (unfaulted faults (none_of (safety_errors name ty) (map fault_error faults) untold).1))
    names item named (none_of (field_heads_errors backend marked.Field item.fields) (types_errors (struct_type_errors backend.supports catalog) names item) none).1)

-- of an out-struct
pub out_fields_formed :
    (backend : Backend) (catalog : Catalog) (names : Naming) (item : Struct) → lifetime_errors item.lifetimes ≡ [] → out_fields_errors backend catalog names item ≡ []
    → is_some (out_fields_form backend catalog names item) ≡ true
out_fields_formed backend catalog names item named none =
    map_given (fields_with backend item.fields) (field_types_form (out_type_form catalog) names item)
    (types_formed (out_type_errors backend.supports catalog) (out_type_form catalog)
    (λ name ty untold. accepts_out _ _ _ OutField backend.supports catalog Whole ty (unfaulted (type_faults backend.supports catalog position.OutField Whole ty) untold))
    names item named (none_of (field_heads_errors backend marked.OutStructField item.fields) (types_errors (out_type_errors backend.supports catalog) names item) none).1)
