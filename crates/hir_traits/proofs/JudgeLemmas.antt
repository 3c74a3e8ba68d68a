-- Types of which something is told, or which stand for something.
use Rattle.std.proofs.Common.{◌≡◌, List, [], ◌∷◌, ◌++◌, length, ◌+◌, ◌<◌, ℕ, map, take, get_or, Option, Some, None, Result, Ok, Err, refl, sym, ap, subst, ◌∙◌}
use Rattle.std.specs.Prelude.{IfOk, OnErr, OnOk, option_map}
use Rattle.std.specs.List.{flat_map}
use Rattle.std.proofs.Common.{append-nil}
use Rattle.std.proofs.lemmas.Grind.{flat_map-append}
use Rattle.std.proofs.lemmas.List.{map-append, take_more}
use Rattle.bridge_grid.specs.Telling.{fault_error}
use Rattle.bridge_grid.specs.declared.fault.TypeFault.{TypeFault}
use Rattle.hir_form.specs.Judging.{IsJudged}
use Rattle.hir_form.specs.ParamForms.{all_given}
use Rattle.hir_form.specs.ReturnForms.{both_given}
use Rattle.hir_mark_contexts.proofs.Stores.{added_keeps}
use Rattle.hir_methods.proofs.StageLemmas.{unfaulted}
use Rattle.hir_methods.specs.Choosing.{kept_with, paired}
use Rattle.hir_methods.specs.inside.Parts.{GivenUnlessTold}
use Rattle.hir_number.proofs.ElisionLemmas.{none_of}
use Rattle.hir_reports.specs.Store.{Held, Keeps, added}
use Rattle.hir_reports.specs.declared.report.LoweringError.{LoweringError}
use Rattle.hir_traits.proofs.WalkLemmas.{given_more}

judged : {A : Type 0} (faults : List TypeFault) (form answer : Option A) → IsJudged faults form answer → GivenUnlessTold (map fault_error faults) form answer
judged faults form (Some it) is = λ _. sym is.1
judged faults form None is = λ none. absurd (is (unfaulted faults none))

-- what a type stands for is made unless something is told of it
pub judged_given : {A E : Type 0} (r : Result (Option A) E) (faults : List TypeFault) (form : Option A) → IfOk r (IsJudged faults form) → IfOk r (GivenUnlessTold (map fault_error faults) form)
judged_given (Ok answer) faults form is = judged faults form answer is
judged_given (Err e) faults form is = tt

-- what was held is still the front
pub still_held : {A E : Type 0} (r : Result A E) (earlier mid new : Held) (es : List LoweringError) → Keeps earlier mid → OnOk r (new ≡ added mid es) → OnErr r (new ≡ mid) → Keeps earlier new
still_held (Ok x) earlier mid new es keeps told same = subst (Keeps earlier) (sym told) (added_keeps earlier mid es keeps)
still_held (Err e) earlier mid new es keeps told same = subst (Keeps earlier) (sym same) keeps

pub ruleset judging = (judged_given, still_held)

-- one more of a list
module _ {X A : Type 0} (told : X → List LoweringError) (form : X → Option A) (xs : List X) where
  told_more : (i : ℕ) (x : X) → i < length xs → flat_map told (take (i + 1) xs) ≡ flat_map told (take i xs) ++ told (get_or xs i x)
  told_more i x within =
      ap (flat_map told) (take_more xs i x within) ∙ flat_map-append told (take i xs) (get_or xs i x ∷ [])
      ∙ ap (λ es. flat_map told (take i xs) ++ es) (append-nil (told (get_or xs i x)))

  forms_more : (i : ℕ) (x : X) → i < length xs → all_given (map form (take (i + 1) xs)) ≡ kept_with (all_given (map form (take i xs))) (form (get_or xs i x))
  forms_more i x within =
      ap (λ ys. all_given (map form ys)) (take_more xs i x within) ∙ ap all_given (map-append form (take i xs) (get_or xs i x ∷ []))
      ∙ given_more (map form (take i xs)) (form (get_or xs i x))

  pub each_given :
      (i : ℕ) (x : X) (before now : Option (List A)) (one : Option A) → i < length xs → GivenUnlessTold (flat_map told (take i xs)) (all_given (map form (take i xs))) before
      → GivenUnlessTold (told (get_or xs i x)) (form (get_or xs i x)) one → now ≡ kept_with before one
      → GivenUnlessTold (flat_map told (take (i + 1) xs)) (all_given (map form (take (i + 1) xs))) now
  each_given i x before now one within made more is = λ none.
      let parts = none_of (flat_map told (take i xs)) (told (get_or xs i x)) (sym (told_more i x within) ∙ none) in
      is ∙ ap (λ b. kept_with b one) (made parts.0) ∙ ap (kept_with (all_given (map form (take i xs)))) (more parts.1) ∙ sym (forms_more i x within)

-- what is made of two parts, each of which may have no form
with_forms : {A B C : Type 0} (whole : A → B → C) (first : Option A) (second : Option B) → option_map (λ p. whole p.0 p.1) (paired first second) ≡ both_given whole first second
with_forms whole (Some x) (Some y) = refl
with_forms whole (Some x) None = refl
with_forms whole None second = refl

pub both_judged :
    {A B C : Type 0} (whole : A → B → C) (form : Option A) (other : Option B) (first : Option A) (second : Option B) (fs ss : List LoweringError) → GivenUnlessTold fs form first
    → GivenUnlessTold ss other second → GivenUnlessTold (fs ++ ss) (both_given whole form other) (option_map (λ p. whole p.0 p.1) (paired first second))
both_judged whole form other first second fs ss one two = λ none.
    let parts = none_of fs ss none in
    ap (λ a. option_map (λ p. whole p.0 p.1) (paired a second)) (one parts.0) ∙ ap (λ b. option_map (λ p. whole p.0 p.1) (paired form b)) (two parts.1) ∙ with_forms whole form other
