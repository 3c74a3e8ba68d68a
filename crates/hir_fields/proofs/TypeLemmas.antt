-- What is told of the types of fields, and made of them, by how far they come.
use Rattle.std.proofs.Common.{◌≡◌, ◌≢◌, List, [], ◌∷◌, ◌++◌, map, Option, Result, Ok, Err, refl, sym, ap, subst, ◌∙◌}
use Rattle.std.specs.Prelude.{IfErr, IfOk, OnOk}
use Rattle.bridge_decl.specs.declared.lifetimes.LifetimeEnv.{LifetimeEnv}
use Rattle.bridge_decl.specs.declared.structs.Field.{Field}
use Rattle.bridge_decl.specs.declared.structs.Struct.{Struct}
use Rattle.hir_elide.specs.declared.fault.ElideFault.TheVariants as elide
use Rattle.hir_form.specs.ParamForms.{all_given}
use Rattle.hir_heads.specs.Heads.{lifetime_errors}
use Rattle.hir_life.specs.Declarations.{HasIdents}
use Rattle.hir_number.specs.Breaches.{Broken, field_breaches}
use Rattle.hir_number.specs.Faults.{FaultTold, IsOfElision}
use Rattle.hir_number.specs.Naming.{Naming}
use Rattle.hir_number.specs.Numbered.{AreNumberedFields, numbers_of_each}
use Rattle.hir_number.specs.Numbers.{signature_numbers}
use Rattle.hir_number.specs.Shapes.{NumberLists}
use Rattle.hir_number.specs.Signatures.{field_uses}
use Rattle.hir_number.specs.declared.fault.NumberFault.{NumberFault}
use Rattle.hir_number.specs.declared.fault.NumberFault.TheVariants as fault
use Rattle.hir_number.specs.declared.numbered.NumberedType.{NumberedType}
use Rattle.hir_reports.proofs.StoreLaws.{added_nothing}
use Rattle.hir_reports.specs.Store.{Held, added}
use Rattle.hir_reports.specs.declared.report.LoweringError.{LoweringError}
use Rattle.hir_signatures.specs.Errors.{breach_error, number_errors}
use Rattle.hir_stages.proofs.Filled.{fields_are_filled}
use Rattle.hir_fields.proofs.SoFar.{back_none, front_none}
use Rattle.hir_fields.specs.Told.{StandsUnlessTold}
use Rattle.hir_fields.specs.Types.{TypeErrors, each_errors, else_told, field_types_form, numbered_errors, numbered_form, types_errors, where_named}
use Rattle.hir_fields.specs.inside.Numbering.{JudgedWhereNumbered, result_errors}

-- ---- with breaches

else_first : (first later : List LoweringError) → first ≢ [] → first ≡ else_told first later
else_first [] later some = absurd (some refl)
else_first (e ∷ es) later some = refl

none_mapped : (bs : List Broken) → map breach_error bs ≡ [] → bs ≡ []
none_mapped [] h = refl
none_mapped (b ∷ bs) h = absurd cc

-- ---- without

nothing_more : (first later : List LoweringError) → first ≢ [] → where_named first later ≡ []
nothing_more [] later some = absurd (some refl)
nothing_more (e ∷ es) later some = refl

-- why a lifetime has no number, where all names are identifiers
of_numbers : (declared : LifetimeEnv) (numbers : Result NumberLists NumberFault) (e : NumberFault) → HasIdents declared → IsOfElision e
    → FaultTold declared e numbers → e ≢ fault.NoMemory → (numbers ≡ Err e) × (number_errors e ≢ [])
of_numbers declared numbers fault.UnresolvedPath idents of told other = absurd of
of_numbers declared numbers fault.LifetimeArity idents of told other = absurd of
of_numbers declared numbers (fault.Elide elide.LifetimeUnknown) idents of told other = absurd of
of_numbers declared numbers (fault.Elide elide.AnonymousInDefinition) idents of told other = (told, λ h. absurd cc)
of_numbers declared numbers (fault.Elide elide.ElisionNoSource) idents of told other = (told, λ h. absurd cc)
of_numbers declared numbers (fault.Elide elide.ElisionAmbiguous) idents of told other = (told, λ h. absurd cc)
of_numbers declared numbers (fault.Elide elide.TooManyLifetimes) idents of told other = (told, λ h. absurd cc)
of_numbers declared numbers (fault.Elide elide.BadIdent) idents of told other = absurd (told idents)
of_numbers declared numbers (fault.Elide elide.NoMemory) idents of told other = absurd of
of_numbers declared numbers fault.NoMemory idents of told other = absurd (other refl)

module _ (errors : TypeErrors) (names : Naming) (item : Struct) where
  -- what came of numbering is what the declaration gives
  pub record IsNumbering (r : Result (List NumberedType) NumberFault) : Type 0 where
    pub idents : HasIdents item.lifetimes
    pub unbreached : field_breaches names item ≡ []
    pub unnamed : lifetime_errors item.lifetimes ≡ []
    pub numbered : IfOk r (λ types. AreNumberedFields names item types)
    pub elision : IfErr r IsOfElision
    pub faulted : IfErr r (λ e. FaultTold item.lifetimes e (signature_numbers item.lifetimes (field_uses names item.fields)))
    pub memory : r ≢ Err fault.NoMemory

  -- the stages before it have nothing
  stage_left : field_breaches names item ≡ [] → lifetime_errors item.lifetimes ≡ [] → (r : Result NumberLists NumberFault)
      → signature_numbers item.lifetimes (field_uses names item.fields) ≡ r → types_errors errors names item ≡ numbered_errors errors names item r
  stage_left unbreached unnamed r same =
      ap (λ bs. else_told (map breach_error bs) (where_named (lifetime_errors item.lifetimes) (numbered_errors errors names item (signature_numbers item.lifetimes (field_uses names item.fields))))) unbreached
      ∙ ap (λ es. where_named es (numbered_errors errors names item (signature_numbers item.lifetimes (field_uses names item.fields)))) unnamed
      ∙ ap (numbered_errors errors names item) same

  -- so that is told
  pub numbered_told : (r : Result (List NumberedType) NumberFault) → IsNumbering r → result_errors errors item.fields r ≡ types_errors errors names item
  numbered_told (Ok types) is =
      ap (each_errors errors item.fields) (fields_are_filled names item types is.numbered)
      ∙ sym (stage_left is.unbreached is.unnamed (Ok (numbers_of_each types)) is.numbered.numbers)
  numbered_told (Err e) is =
      sym (stage_left is.unbreached is.unnamed (Err e)
      (of_numbers item.lifetimes (signature_numbers item.lifetimes (field_uses names item.fields)) e is.idents is.elision is.faulted (λ h. is.memory (ap (λ x. Err x) h))).0)

  -- and what the types stand for is made
  pub numbered_given : {T : Type 0} (form : NumberedType → Option T) (r : Result (List NumberedType) NumberFault) (made : Option (List T)) → IsNumbering r
      → JudgedWhereNumbered errors form item.fields r made
      → StandsUnlessTold (lifetime_errors item.lifetimes ++ types_errors errors names item) (field_types_form form names item) made
  numbered_given form (Ok types) made is judged = λ none.
      let nothing = numbered_told (Ok types) is ∙ back_none (lifetime_errors item.lifetimes) (types_errors errors names item) none in
      let all = judged nothing in (
        all.0,
        ap (numbered_form form names item) is.numbered.numbers ∙ ap (λ ts. all_given (map form ts)) (sym (fields_are_filled names item types is.numbered)) ∙ all.1,
      )
  numbered_given form (Err e) made is judged = λ none.
      let nothing = numbered_told (Err e) is ∙ back_none (lifetime_errors item.lifetimes) (types_errors errors names item) none in
      absurd ((of_numbers item.lifetimes (signature_numbers item.lifetimes (field_uses names item.fields)) e is.idents is.elision is.faulted (λ h. is.memory (ap (λ x. Err x) h))).1 nothing)

  -- each breach is told, and nothing else
  pub breaches_told : field_breaches names item ≢ [] → map breach_error (field_breaches names item) ≡ types_errors errors names item
  breaches_told some = else_first (map breach_error (field_breaches names item)) _ (λ h. some (none_mapped (field_breaches names item) h))

  pub breached_given : {T : Type 0} (form : Option (List T)) (made : Option (List T)) → field_breaches names item ≢ []
      → StandsUnlessTold (lifetime_errors item.lifetimes ++ types_errors errors names item) form made
  breached_given form made some = λ none.
      absurd (some (none_mapped (field_breaches names item) (breaches_told some ∙ back_none (lifetime_errors item.lifetimes) (types_errors errors names item) none)))

  -- nothing is told of types where a declared lifetime is misnamed
  pub misnamed_told : field_breaches names item ≡ [] → lifetime_errors item.lifetimes ≢ [] → map breach_error (field_breaches names item) ≡ types_errors errors names item
  misnamed_told none some =
      ap (map breach_error) none
      ∙ sym (ap (λ bs. else_told (map breach_error bs) (where_named (lifetime_errors item.lifetimes) (numbered_errors errors names item (signature_numbers item.lifetimes (field_uses names item.fields))))) none
      ∙ nothing_more (lifetime_errors item.lifetimes) _ some)

  pub misnamed_given : {T : Type 0} (form : Option (List T)) (made : Option (List T)) → lifetime_errors item.lifetimes ≢ []
      → StandsUnlessTold (lifetime_errors item.lifetimes ++ types_errors errors names item) form made
  misnamed_given form made some = λ none. absurd (some (front_none (lifetime_errors item.lifetimes) (types_errors errors names item) none))

  -- so, by the answer of a call that may want memory
  pub told_ok : {A E : Type 0} (result : Result A E) (r : Result (List NumberedType) NumberFault) (fields : List Field) (old tested new : Held) → fields ≡ item.fields
      → tested ≡ added old (map breach_error (field_breaches names item)) → field_breaches names item ≡ [] → (r ≢ Err fault.NoMemory → IsNumbering r)
      → OnOk result (r ≢ Err fault.NoMemory) → OnOk result (new ≡ added tested (result_errors errors fields r)) → OnOk result (new ≡ added old (types_errors errors names item))
  told_ok (Ok x) r fields old tested new same before none is memory told =
      told ∙ ap (λ fs. added tested (result_errors errors fs r)) same
      ∙ ap (λ held. added held (result_errors errors item.fields r)) (before ∙ ap (λ bs. added old (map breach_error bs)) none ∙ sym (added_nothing old))
      ∙ ap (added old) (numbered_told r (is memory))
  told_ok (Err e) r fields old tested new same before none is memory told = tt

  pub given_ok : {T E : Type 0} (form : NumberedType → Option T) (result : Result (Option (List T)) E) (r : Result (List NumberedType) NumberFault) (fields : List Field) → fields ≡ item.fields
      → (r ≢ Err fault.NoMemory → IsNumbering r) → OnOk result (r ≢ Err fault.NoMemory) → IfOk result (JudgedWhereNumbered errors form fields r)
      → IfOk result (StandsUnlessTold (lifetime_errors item.lifetimes ++ types_errors errors names item) (field_types_form form names item))
  given_ok form (Ok made) r fields same is memory judged =
      numbered_given form r made (is memory) (subst (λ fs. JudgedWhereNumbered errors form fs r made) same judged)
  given_ok form (Err e) r fields same is memory judged = tt
