-- What is told and made, by how far the types come.
use Rattle.std.proofs.Common.{◌≡◌, ◌≢◌, Bool, true, false, List, [], map, Option, None, Ok, Err, Result, refl, sym, ap, ◌∙◌}
use Rattle.std.specs.Prelude.{⊤, IfOk, IfErr, MatchBool}
use Rattle.bridge_decl.specs.declared.lifetimes.LifetimeEnv.{LifetimeEnv}
use Rattle.bridge_grid.specs.declared.fault.TypeFault.{TypeFault}
use Rattle.hir_elide.specs.declared.fault.ElideFault.TheVariants as elide
use Rattle.hir_life.specs.Declarations.{HasIdents}
use Rattle.hir_number.specs.Breaches.{Broken}
use Rattle.hir_number.specs.Faults.{FaultTold, IsOfElision}
use Rattle.hir_number.specs.Shapes.{NumberLists}
use Rattle.hir_number.specs.declared.fault.NumberFault.{NumberFault}
use Rattle.hir_number.specs.declared.fault.NumberFault.TheVariants as fault
use Rattle.hir_number.specs.declared.signature.NumberedSignature.{NumberedSignature}
use Rattle.hir_reports.proofs.StoreLaws.{added_nothing}
use Rattle.hir_reports.specs.Store.{Held, added}
use Rattle.hir_signatures.specs.declared.signatures.SignatureTypes.{SignatureTypes}
use Rattle.hir_signatures.specs.Errors.{breach_error}
use Rattle.hir_signatures.specs.Stages.{Misnamed, ComesTo, IsLowered, IsMade, stage_errors}
use Rattle.hir_signatures.specs.inside.Numbering.{stage_of}

-- where there are no breaches, nothing is told of them
unbreached : (breaches : List Broken) (old new : Held) → breaches ≡ [] → new ≡ added old (map breach_error breaches) → new ≡ old
unbreached breaches old new none told = told ∙ ap (λ bs. added old (map breach_error bs)) none ∙ sym (added_nothing old)

-- so, by a test of whether there are any
pub untouched : (b : Bool) (breaches : List Broken) (old new : Held) → MatchBool b (breaches ≡ []) (breaches ≢ [])
    → new ≡ added old (map breach_error breaches) → MatchBool b (new ≡ old) ⊤
untouched true breaches old new none told = unbreached breaches old new none told
untouched false breaches old new some told = tt

-- none, and a name that is no identifier
pub misnamed : (breaches : List Broken) (declared : LifetimeEnv) (numbers : Result NumberLists NumberFault) (IsIt : NumberedSignature → Type 0)
    (faults : NumberedSignature → List TypeFault) (form : NumberedSignature → Option SignatureTypes) (old new : Held)
    → breaches ≡ [] → ¬ (HasIdents declared) → new ≡ added old (map breach_error breaches)
    → IsLowered breaches (ComesTo breaches declared numbers IsIt) faults form old new None
misnamed breaches declared numbers IsIt faults form old new none bad told =
    record { stage = Misnamed; comes = (none, bad); told = unbreached breaches old new none told ∙ added_nothing old; made = refl }

-- a fault of what passed the tests is that of the numbers
of_numbers : (declared : LifetimeEnv) (numbers : Result NumberLists NumberFault) (e : NumberFault) → HasIdents declared → IsOfElision e
    → FaultTold declared e numbers → e ≢ fault.NoMemory → numbers ≡ Err e
of_numbers declared numbers fault.UnresolvedPath idents of told other = absurd of
of_numbers declared numbers fault.LifetimeArity idents of told other = absurd of
of_numbers declared numbers (fault.Elide elide.LifetimeUnknown) idents of told other = absurd of
of_numbers declared numbers (fault.Elide elide.AnonymousInDefinition) idents of told other = told
of_numbers declared numbers (fault.Elide elide.ElisionNoSource) idents of told other = told
of_numbers declared numbers (fault.Elide elide.ElisionAmbiguous) idents of told other = told
of_numbers declared numbers (fault.Elide elide.TooManyLifetimes) idents of told other = told
of_numbers declared numbers (fault.Elide elide.BadIdent) idents of told other = absurd (told idents)
of_numbers declared numbers (fault.Elide elide.NoMemory) idents of told other = absurd of
of_numbers declared numbers fault.NoMemory idents of told other = absurd (other refl)

-- so what came of numbering says how far the types come
comes : (breaches : List Broken) (declared : LifetimeEnv) (numbers : Result NumberLists NumberFault) (IsIt : NumberedSignature → Type 0)
    (r : Result NumberedSignature NumberFault) → breaches ≡ [] → HasIdents declared → IfOk r IsIt → IfErr r IsOfElision
    → IfErr r (λ e. FaultTold declared e numbers) → r ≢ Err fault.NoMemory → ComesTo breaches declared numbers IsIt (stage_of r)
comes breaches declared numbers IsIt (Ok n) none idents is of told other = (none, (idents, is))
comes breaches declared numbers IsIt (Err e) none idents is of told other =
    (none, (idents, (of, of_numbers declared numbers e idents of told (λ no_memory. other (ap (λ x. Err x) no_memory)))))

-- what is told there
same_errors : (breaches : List Broken) (faults : NumberedSignature → List TypeFault) (r : Result NumberedSignature NumberFault)
    → stage_errors [] faults (stage_of r) ≡ stage_errors breaches faults (stage_of r)
same_errors breaches faults (Ok n) = refl
same_errors breaches faults (Err e) = refl

-- no breaches, and identifiers
pub numbered : (breaches : List Broken) (declared : LifetimeEnv) (numbers : Result NumberLists NumberFault) (IsIt : NumberedSignature → Type 0)
    (faults : NumberedSignature → List TypeFault) (form : NumberedSignature → Option SignatureTypes) (old tested new : Held)
    (r : Result NumberedSignature NumberFault) (made : Option SignatureTypes) → breaches ≡ [] → HasIdents declared → IfOk r IsIt
    → IfErr r IsOfElision → IfErr r (λ e. FaultTold declared e numbers) → r ≢ Err fault.NoMemory
    → tested ≡ added old (map breach_error breaches) → new ≡ added tested (stage_errors [] faults (stage_of r)) → IsMade faults form (stage_of r) made
    → IsLowered breaches (ComesTo breaches declared numbers IsIt) faults form old new made
numbered breaches declared numbers IsIt faults form old tested new r made none idents is of answered other before told form_made =
    record {
      stage = stage_of r;
      comes = comes breaches declared numbers IsIt r none idents is of answered other;
      told = told ∙ ap (λ held. added held (stage_errors [] faults (stage_of r))) (unbreached breaches old tested none before)
          ∙ ap (added old) (same_errors breaches faults r);
      made = form_made;
    }
