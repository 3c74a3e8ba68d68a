-- The type of a field, told and made.
use Rattle.std.proofs.Common.{◌≡◌, List, [], ◌∷◌, ◌++◌, map, Option, Some, None, Result, Ok, Err, refl, ap, subst, sym, ◌∙◌}
use Rattle.std.specs.Prelude.{IfOk, OnErr, OnOk}
use Rattle.bridge_grid.specs.Telling.{fault_error}
use Rattle.bridge_grid.specs.declared.fault.TypeFault.{TypeFault}
use Rattle.hir_form.specs.Judging.{IsJudged}
use Rattle.hir_mark_contexts.proofs.Stores.{added_keeps}
use Rattle.hir_reports.proofs.StoreLaws.{added_more}
use Rattle.hir_reports.specs.Store.{Held, Keeps, added}
use Rattle.hir_reports.specs.declared.report.LoweringError.{LoweringError}
use Rattle.hir_fields.proofs.SoFar.{back_none}
use Rattle.hir_fields.specs.Told.{StandsUnlessTold}

-- what is told after something else comes behind it
pub both_told : {A E : Type 0} (result : Result A E) (old mid new : Held) (first second : List LoweringError) → mid ≡ added old first
    → OnOk result (new ≡ added mid second) → OnOk result (new ≡ added old (first ++ second))
both_told (Ok x) old mid new first second before told = told ∙ ap (λ held. added held second) before ∙ added_more old first second
both_told (Err e) old mid new first second before told = tt

none_mapped : (faults : List TypeFault) → map fault_error faults ≡ [] → faults ≡ []
none_mapped [] h = refl
none_mapped (f ∷ fs) h = absurd cc

judged : {T : Type 0} (first : List LoweringError) (faults : List TypeFault) (form made : Option T) → IsJudged faults form made
    → StandsUnlessTold (first ++ map fault_error faults) form made
judged first faults form (Some x) is = λ none. (refl, is.1)
judged first faults form None is = λ none. absurd (is (none_mapped faults (back_none first (map fault_error faults) none)))

-- what a type stands for is made unless something is told of it
pub judged_given : {T E : Type 0} (result : Result (Option T) E) (first : List LoweringError) (faults : List TypeFault) (form : Option T)
    → IfOk result (IsJudged faults form) → IfOk result (StandsUnlessTold (first ++ map fault_error faults) form)
judged_given (Ok made) first faults form is = judged first faults form made is
judged_given (Err e) first faults form is = tt

judged_alone : {T : Type 0} (faults : List TypeFault) (form made : Option T) → IsJudged faults form made → StandsUnlessTold (map fault_error faults) form made
judged_alone faults form (Some x) is = λ none. (refl, is.1)
judged_alone faults form None is = λ none. absurd (is (none_mapped faults none))

pub judged_given_alone : {T E : Type 0} (result : Result (Option T) E) (faults : List TypeFault) (form : Option T)
    → IfOk result (IsJudged faults form) → IfOk result (StandsUnlessTold (map fault_error faults) form)
judged_given_alone (Ok made) faults form is = judged_alone faults form made is
judged_given_alone (Err e) faults form is = tt

-- what was held is still the front
pub still_held : {A E : Type 0} (result : Result A E) (earlier mid new : Held) (es : List LoweringError) → Keeps earlier mid
    → OnOk result (new ≡ added mid es) → OnErr result (new ≡ mid) → Keeps earlier new
still_held (Ok x) earlier mid new es keeps told same = subst (Keeps earlier) (sym told) (added_keeps earlier mid es keeps)
still_held (Err e) earlier mid new es keeps told same = subst (Keeps earlier) (sym same) keeps

pub ruleset judging = (both_told, judged_given, judged_given_alone, still_held)
