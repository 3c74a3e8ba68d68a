-- What is told and made of the types of a trait's method is by the stage that the declaration gives.
use Rattle.std.proofs.Common.{◌≡◌, ◌≢◌, List, [], map, Option, Result, Ok, Err, refl, sym, ap, ◌∙◌}
use Rattle.std.specs.Prelude.{IfErr, IfOk, OnOk}
use Rattle.bridge_ast.specs.declared.place.ItemPlace.{ItemPlace}
use Rattle.bridge_decl.specs.declared.lifetimes.LifetimeEnv.{LifetimeEnv}
use Rattle.bridge_decl.specs.declared.traits.TraitMethod.{TraitMethod}
use Rattle.hir_elide.specs.declared.fault.ElideFault.TheVariants as elide
use Rattle.hir_heads.proofs.NameLemmas.{all_idents}
use Rattle.hir_heads.specs.Heads.{lifetime_errors}
use Rattle.hir_life.specs.Declarations.{HasIdents}
use Rattle.hir_methods.specs.inside.Parts.{GivenUnlessTold}
use Rattle.hir_number.specs.Breaches.{Broken, trait_method_breaches}
use Rattle.hir_number.specs.Faults.{FaultTold, IsOfElision}
use Rattle.hir_number.specs.Naming.{Naming}
use Rattle.hir_number.specs.Numbered.{IsNumberedTraitMethod, trait_numbers_of}
use Rattle.hir_number.specs.Numbers.{signature_numbers}
use Rattle.hir_number.specs.Shapes.{NumberLists}
use Rattle.hir_number.specs.Signatures.{trait_method_uses}
use Rattle.hir_number.specs.declared.fault.NumberFault.{NumberFault}
use Rattle.hir_number.specs.declared.fault.NumberFault.TheVariants as fault
use Rattle.hir_number.specs.declared.trait_methods.NumberedTraitMethod.{NumberedTraitMethod}
use Rattle.hir_reports.proofs.StoreLaws.{added_nothing}
use Rattle.hir_reports.specs.Store.{Held, added}
use Rattle.hir_reports.specs.declared.report.LoweringError.{LoweringError}
use Rattle.hir_signatures.specs.Errors.{breach_error}
use Rattle.hir_stages.proofs.Filled.{trait_method_is_filled}
use Rattle.hir_stages.specs.Numbering.{filled_trait_method}
use Rattle.hir_traits.specs.TraitStages.{TraitJudged, trait_breached_stage, trait_method_stage, trait_named_stage, trait_numbered_stage, trait_stage_errors, trait_stage_form}
use Rattle.hir_traits.specs.inside.Numbering.{trait_stage_of}

-- why a lifetime has no number, where all names are identifiers
of_numbers : (declared : LifetimeEnv) (numbers : Result NumberLists NumberFault) (e : NumberFault) → HasIdents declared → IsOfElision e
    → FaultTold declared e numbers → e ≢ fault.NoMemory → numbers ≡ Err e
of_numbers declared numbers fault.UnresolvedPath idents of told other = absurd of
of_numbers declared numbers fault.LifetimeArity idents of told other = absurd of
of_numbers declared numbers (fault.Elide elide.LifetimeUnknown) idents of told other = absurd of
of_numbers declared numbers (fault.Elide elide.AnonymousInDefinition) idents of told other = told
of_numbers declared numbers (fault.Elide elide.ElisionNoSource) idents of told other = told
of_numbers declared numbers (fault.Elide elide.ElisionAmbiguous) idents of told other = told
of_numbers declared numbers (fault.Elide elide.TooManyLifetimes) idents of told other = told
of_numbers declared numbers (fault.Elide elide.BadIdent) idents of told other = absurd (told idents)
of_numbers declared numbers (fault.Elide elide.NoMemory) idents of told other = absurd of
of_numbers declared numbers fault.NoMemory idents of told other = absurd (other refl)

-- what is told where it was numbered has nothing to do with breaches
same_errors : (bs : List Broken) (judged : NumberedTraitMethod → List LoweringError) (r : Result NumberedTraitMethod NumberFault)
    → trait_stage_errors [] judged (trait_stage_of r) ≡ trait_stage_errors bs judged (trait_stage_of r)
same_errors bs judged (Ok n) = refl
same_errors bs judged (Err e) = refl

module _ (names : Naming) (place : ItemPlace) (method : TraitMethod) where
  -- what came of numbering is what the declaration gives
  pub record IsNumbering (r : Result NumberedTraitMethod NumberFault) : Type 0 where
    pub unbreached : trait_method_breaches names place method ≡ []
    pub unnamed : lifetime_errors method.lifetimes ≡ []
    pub numbered : IfOk r (λ n. IsNumberedTraitMethod names method n)
    pub elision : IfErr r IsOfElision
    pub faulted : IfErr r (λ e. FaultTold method.lifetimes e (signature_numbers method.lifetimes (trait_method_uses names method)))
    pub memory : r ≢ Err fault.NoMemory

  -- where the stages before it have nothing
  stage_left : trait_method_breaches names place method ≡ [] → lifetime_errors method.lifetimes ≡ [] → (r : Result NumberLists NumberFault)
      → signature_numbers method.lifetimes (trait_method_uses names method) ≡ r → trait_method_stage names place method ≡ trait_numbered_stage (filled_trait_method names method) r
  stage_left unbreached unnamed r same =
      let numbered = trait_numbered_stage (filled_trait_method names method) (signature_numbers method.lifetimes (trait_method_uses names method)) in
      ap (trait_breached_stage (trait_named_stage numbered (lifetime_errors method.lifetimes))) unbreached ∙ ap (trait_named_stage numbered) unnamed
      ∙ ap (trait_numbered_stage (filled_trait_method names method)) same

  comes : (r : Result NumberedTraitMethod NumberFault) → IsNumbering r → trait_stage_of r ≡ trait_method_stage names place method
  comes (Ok n) is =
      ap TraitJudged (trait_method_is_filled names method n is.numbered) ∙ sym (stage_left is.unbreached is.unnamed (Ok (trait_numbers_of n)) is.numbered.numbers)
  comes (Err e) is =
      sym (stage_left is.unbreached is.unnamed (Err e)
      (of_numbers method.lifetimes (signature_numbers method.lifetimes (trait_method_uses names method)) e (all_idents method.lifetimes.nodes is.unnamed) is.elision is.faulted
      (λ h. is.memory (ap (λ x. Err x) h))))

  module _ (judged : NumberedTraitMethod → List LoweringError) where
    numbered_errors : (r : Result NumberedTraitMethod NumberFault) → IsNumbering r
        → trait_stage_errors [] judged (trait_stage_of r) ≡ trait_stage_errors (trait_method_breaches names place method) judged (trait_method_stage names place method)
    numbered_errors r is =
        same_errors (trait_method_breaches names place method) judged r ∙ ap (trait_stage_errors (trait_method_breaches names place method) judged) (comes r is)

    -- so that is told, and that is made
    pub numbered_told : {A E : Type 0} (result : Result A E) (r : Result NumberedTraitMethod NumberFault) (old tested new : Held)
        → tested ≡ added old (map breach_error (trait_method_breaches names place method)) → trait_method_breaches names place method ≡ [] → (r ≢ Err fault.NoMemory → IsNumbering r)
        → OnOk result (r ≢ Err fault.NoMemory) → OnOk result (new ≡ added tested (trait_stage_errors [] judged (trait_stage_of r)))
        → OnOk result (new ≡ added old (trait_stage_errors (trait_method_breaches names place method) judged (trait_method_stage names place method)))
    numbered_told (Ok x) r old tested new before none is memory told =
        told ∙ ap (λ held. added held (trait_stage_errors [] judged (trait_stage_of r))) (before ∙ ap (λ bs. added old (map breach_error bs)) none ∙ sym (added_nothing old))
        ∙ ap (added old) (numbered_errors r (is memory))
    numbered_told (Err e) r old tested new before none is memory told = tt

    pub numbered_given : {A E : Type 0} (form : NumberedTraitMethod → Option A) (result : Result (Option A) E) (r : Result NumberedTraitMethod NumberFault)
        → (r ≢ Err fault.NoMemory → IsNumbering r) → OnOk result (r ≢ Err fault.NoMemory)
        → IfOk result (GivenUnlessTold (trait_stage_errors [] judged (trait_stage_of r)) (trait_stage_form form (trait_stage_of r)))
        → IfOk result (GivenUnlessTold (trait_stage_errors (trait_method_breaches names place method) judged (trait_method_stage names place method))
        (trait_stage_form form (trait_method_stage names place method)))
    numbered_given form (Ok made) r is memory given = λ none.
        given (numbered_errors r (is memory) ∙ none) ∙ ap (trait_stage_form form) (comes r (is memory))
    numbered_given form (Err e) r is memory given = tt
