-- What is told of the types of a signature or a definition up to the step that they come to is what the rules say, where nothing is
-- told of the names of its lifetimes.
use Rattle.std.proofs.Common.{◌≡◌, inl, inr, List, [], ◌∷◌, length, map, Bool, true, false, Result, Ok, Err, if◌then◌else◌, refl, sym, subst, ◌∙◌}
use Rattle.std.specs.Prelude.{⊤, nat_lt}
use Rattle.std.specs.List.{Contains}
use Rattle.std.proofs.lemmas.Bool.{ltb-false}
use Rattle.bridge_decl.specs.declared.lifetimes.LifetimeEnv.{LifetimeEnv}
use Rattle.bridge_grid.specs.Telling.{fault_error}
use Rattle.bridge_grid.specs.declared.fault.TypeFault.{TypeFault}
use Rattle.bridge_telling.specs.inside.Given.{TellsGiven}
use Rattle.bridge_telling.proofs.ExactLemmas.{in_first, in_none}
use Rattle.bridge_telling.proofs.GivenLemmas.{mapped}
use Rattle.hir_elide.specs.Numbering.{most}
use Rattle.hir_number.proofs.FaultLemmas.{IsLowered}
use Rattle.hir_number.specs.Breaches.{Broken}
use Rattle.hir_number.specs.Breaches as breach
use Rattle.hir_number.specs.Faults.{IsOfElision}
use Rattle.hir_number.specs.Numbers.{answers, signature_numbers}
use Rattle.hir_number.specs.Shapes.{NumberLists}
use Rattle.hir_number.specs.Signatures.{Placed}
use Rattle.hir_number.specs.declared.fault.NumberFault.{NumberFault}
use Rattle.hir_number.specs.declared.signature.NumberedSignature.{NumberedSignature}
use Rattle.hir_reports.specs.declared.report.LoweringError.{LoweringError}
use Rattle.hir_signatures.specs.Errors.{breach_error, number_errors}
use Rattle.hir_signatures.specs.Stages.{stage_errors}
use Rattle.hir_stages.specs.Given.{breached_stage, named_stage, numbered_stage}
use Rattle.hir_rules.specs.Types.{AsBreachErrors, SignatureBreaks}
use Rattle.hir_rules.proofs.NumberLemmas.{fault_among, fault_breaks, fault_lowered, none_among, numberless, numbers_are, told_fault}

-- what is told: each breach; else nothing, where a declared lifetime has a bad name; else why the numbers aren't there, or what is wrong with
-- what has them
abbrev pub staged : List Broken → List LoweringError → Result NumberLists NumberFault → (NumberLists → List LoweringError) → List LoweringError
staged (b ∷ bs) names r judged = map breach_error (b ∷ bs)
staged [] (e ∷ es) r judged = []
staged [] [] (Err f) judged = number_errors f
staged [] [] (Ok n) judged = judged n

abbrev numbered : NumberLists → Result NumberLists NumberFault
numbered n = Ok n

same_ok : (n m : NumberLists) → numbered n ≡ Ok m → n ≡ m
same_ok n m h = cc

first_is_none : (x : LoweringError) (xs : List LoweringError) → ¬ (x ∷ xs ≡ [])
first_is_none x xs h = cc

module _ (declared : LifetimeEnv) (us : List Placed) (Paths : Broken → Type 0) (judged : NumberLists → List LoweringError) (Numbered : NumberLists → LoweringError → Type 0)
    (types : (n : NumberLists) → TellsGiven ⊤ (judged n) (Numbered n))
  where
    abbrev Breaks : LoweringError → Type 0
    Breaks = SignatureBreaks Paths declared us Numbered

    -- from the numbers on
    numbered_each : (r : Result NumberLists NumberFault) → signature_numbers declared us ≡ r → nat_lt most (length declared.nodes) ≡ false
        → (e : LoweringError) → Contains (staged [] [] r judged) e → Breaks e
    numbered_each (Err f) same few e h = inr (inl (fault_breaks declared (ltb-false most (length declared.nodes) few) us f e (fault_among (answers declared us) f (sym (numbers_are declared us few) ∙ same)) h))
    numbered_each (Ok n) same few e h = inr (inr (n, (same, (types n).each e h)))

    numbered_some : (r : Result NumberLists NumberFault) → signature_numbers declared us ≡ r → nat_lt most (length declared.nodes) ≡ false
        → ((f : NumberFault) → IsLowered f → signature_numbers declared us ≡ Err f → IsOfElision f) → ((e : LoweringError) → ¬ (AsBreachErrors Paths e))
        → (e : LoweringError) → Breaks e → (one : LoweringError) × Contains (staged [] [] r judged) one
    numbered_some (Err f) same few elided none e h =
        let lowered = fault_lowered declared us f (sym (numbers_are declared us few) ∙ same) in
        told_fault f (elided f lowered same) lowered
    numbered_some (Ok n) same few elided none e h = elim h [
      | inl c ↦ absurd (none e c)
      | inr d ↦ (elim d [
        | inl c ↦ (let why = numberless declared (ltb-false most (length declared.nodes) few) us e c in absurd (none_among (answers declared us) why.0 n why.1 (sym (numbers_are declared us few) ∙ same)))
        | inr c ↦ (types n).some tt e (subst (λ m. Numbered m e) (same_ok c.0 n (sym c.1.0 ∙ same)) c.1.1)
      ])
    ]

    pub staged_tells : (breaches : List Broken) (names : List LoweringError) → TellsGiven ⊤ breaches Paths → (breaches ≡ [] → nat_lt most (length declared.nodes) ≡ false)
        → (breaches ≡ [] → (f : NumberFault) → IsLowered f → signature_numbers declared us ≡ Err f → IsOfElision f)
        → TellsGiven (names ≡ []) (staged breaches names (signature_numbers declared us) judged) Breaks
    staged_tells (b ∷ bs) names paths few elided = record {
      each = λ e h. (let from = mapped breach_error (b ∷ bs) e h in inl (from.0, (paths.each from.0 from.1.0, from.1.1)));
      some = λ g e h. (breach_error b, in_first (breach_error b) (map breach_error bs));
    }
    staged_tells [] (x ∷ xs) paths few elided = record {
      each = λ e h. absurd (in_none e h);
      some = λ g e h. absurd (first_is_none x xs g);
    }
    staged_tells [] [] paths few elided = record {
      each = λ e h. numbered_each (signature_numbers declared us) refl (few refl) e h;
      some = λ g e h. numbered_some (signature_numbers declared us) refl (few refl) (elided refl) (λ x c. (let one = paths.some tt c.0 c.1.0 in in_none one.0 one.1)) e h;
    }

-- ---- by stages, as methods and functions come to them

pub stage_same : (breaches : List Broken) (names : List LoweringError) (r : Result NumberLists NumberFault) (filled : NumberLists → NumberedSignature) (faults : NumberedSignature → List TypeFault)
    → stage_errors breaches faults (breached_stage (named_stage (numbered_stage filled r) names) breaches) ≡ staged breaches names r (λ n. map fault_error (faults (filled n)))
stage_same (b ∷ bs) names r filled faults = refl
stage_same [] (e ∷ es) r filled faults = refl
stage_same [] [] (Err f) filled faults = refl
stage_same [] [] (Ok n) filled faults = refl

-- where nothing is told, not too many are declared
pub few_of : (b : Bool) (others : List Broken) → (if b then breach.TooManyLifetimes ∷ [] else others) ≡ [] → b ≡ false
few_of true others h = absurd cc
few_of false others h = refl
