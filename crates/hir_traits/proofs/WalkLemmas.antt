-- A walk through the methods of a trait, each of which is told at its own place, and made unless it is disabled.
use Rattle.std.proofs.Common.{◌≡◌, ℕ, ◌+◌, ◌<◌, ◌≤◌, Bool, true, false, List, [], ◌∷◌, ◌++◌, length, map, take, get_or, Option, Some, None, refl, sym, ap, subst, ◌∙◌, append_assoc, append-nil}
use Rattle.std.specs.Prelude.{filter, not, option_map, if◌then◌else◌}
use Rattle.std.specs.List.{flat_map}
use Rattle.std.proofs.lemmas.Grind.{flat_map-append}
use Rattle.std.proofs.lemmas.List.{map-append, take_all, take_more}
use Rattle.std.proofs.lemmas.List.Elements.{filter-append}
use Rattle.bridge_decl.specs.declared.traits.TraitMethod.{TraitMethod}
use Rattle.hir_attrs.specs.declared.attrs.Attrs.{Attrs}
use Rattle.hir_items.specs.Placing.{at_method_of}
use Rattle.hir_reports.specs.Store.{Held, added, at_place, at_subitem, told_at}
use Rattle.hir_reports.specs.declared.places.ErrorContext.{ErrorContext}
use Rattle.hir_reports.specs.declared.report.LoweringError.{LoweringError}
use Rattle.hir_reports.specs.declared.report.LoweringReport.{LoweringReport}
use Rattle.hir_form.specs.ParamForms.{all_given}
use Rattle.hir_methods.specs.Choosing.{kept_with}
use Rattle.hir_traits.specs.inside.Parts.{with_next_method}

-- where nothing is reported, nothing is told
pub untold : (place : ErrorContext) (errors : List LoweringError) → map (told_at place) errors ≡ [] → errors ≡ []
untold place [] h = refl
untold place (e ∷ es) h = absurd cc

pub both_none : {A : Type 0} (xs ys : List A) → xs ++ ys ≡ [] → (xs ≡ []) × (ys ≡ [])
both_none [] ys h = (refl, h)
both_none (x ∷ xs) ys h = absurd cc

-- one more form
kept_after : {A : Type 0} (x : A) (xs : Option (List A)) (next : Option A) → option_map (λ rest. x ∷ rest) (kept_with xs next) ≡ kept_with (option_map (λ rest. x ∷ rest) xs) next
kept_after x None next = refl
kept_after x (Some xs) None = refl
kept_after x (Some xs) (Some next) = refl

pub given_more : {A : Type 0} (xs : List (Option A)) (next : Option A) → all_given (xs ++ next ∷ []) ≡ kept_with (all_given xs) next
given_more [] None = refl
given_more [] (Some next) = refl
given_more (None ∷ xs) next = refl
given_more (Some x ∷ xs) next = ap (option_map (λ rest. x ∷ rest)) (given_more xs next) ∙ kept_after x (all_given xs) next

module _ {A : Type 0} (told : TraitMethod → List LoweringError) (marks : TraitMethod → Attrs) (form : TraitMethod → Option A) where
  abbrev pub reports_of : List (List ℕ) → List ℕ → List TraitMethod → List LoweringReport
  reports_of path item ms = flat_map (λ m. at_method_of path item m.name (told m)) ms

  abbrev pub enabled_of : List TraitMethod → List TraitMethod
  enabled_of ms = filter (λ m. not (marks m).disable) ms

  abbrev pub form_of : List TraitMethod → Option (List A)
  form_of ms = all_given (map form (enabled_of ms))

  reports_more : (path : List (List ℕ)) (item : List ℕ) (ms : List TraitMethod) (i : ℕ) (m : TraitMethod) → i < length ms
      → reports_of path item (take (i + 1) ms) ≡ reports_of path item (take i ms) ++ at_method_of path item (get_or ms i m).name (told (get_or ms i m))
  reports_more path item ms i m within =
      ap (reports_of path item) (take_more ms i m within)
      ∙ flat_map-append (λ m. at_method_of path item m.name (told m)) (take i ms) (get_or ms i m ∷ [])
      ∙ ap (λ rs. reports_of path item (take i ms) ++ rs) (append-nil (at_method_of path item (get_or ms i m).name (told (get_or ms i m))))

  -- by whether it is disabled
  form_after : (ms : List TraitMethod) (m : TraitMethod) (off : Bool) → (marks m).disable ≡ off
      → form_of (ms ++ m ∷ []) ≡ (if off then form_of ms else kept_with (form_of ms) (form m))
  form_after ms m true off =
      ap (λ xs. all_given (map form xs))
      (filter-append (λ m. not (marks m).disable) ms (m ∷ []) ∙ ap (λ b. enabled_of ms ++ (if not b then m ∷ [] else [])) off ∙ append-nil (enabled_of ms))
  form_after ms m false on =
      ap (λ xs. all_given (map form xs))
      (filter-append (λ m. not (marks m).disable) ms (m ∷ []) ∙ ap (λ b. enabled_of ms ++ (if not b then m ∷ [] else [])) on)
      ∙ ap all_given (map-append form (enabled_of ms) (m ∷ [])) ∙ given_more (map form (enabled_of ms)) (form m)

  form_more : (ms : List TraitMethod) (i : ℕ) (m : TraitMethod) → i < length ms
      → form_of (take (i + 1) ms) ≡ with_next_method (marks (get_or ms i m)) (form_of (take i ms)) (form (get_or ms i m))
  form_more ms i m within =
      ap form_of (take_more ms i m within) ∙ form_after (take i ms) (get_or ms i m) (marks (get_or ms i m)).disable refl

  -- the first methods are told and made
  pub record Walked (ms : List TraitMethod) (i : ℕ) (start now : Held) (made : Option (List A)) : Type 0 where
    pub «module» : now.place.«module» ≡ start.place.«module»
    pub item : now.place.item ≡ start.place.item
    pub reports : now.reports ≡ start.reports ++ reports_of start.place.«module» start.place.item (take i ms)
    pub given : reports_of start.place.«module» start.place.item (take i ms) ≡ [] → made ≡ form_of (take i ms)

  -- one more method, which is lent
  pub walk_goes_on : (ms : List TraitMethod) (i : ℕ) (m : TraitMethod) (start old new : Held) (before after : Option (List A)) → Walked ms i start old before → i < length ms
      → m ≡ get_or ms i m → new ≡ added (at_subitem old (Some m.name)) (told m) → (told m ≡ [] → after ≡ with_next_method (marks m) before (form m))
      → Walked ms (i + 1) start new after
  walk_goes_on ms i m start old new before after walked within is step one =
      let path = start.place.«module» in
      let item = start.place.item in
      let here : (x : TraitMethod) → x ≡ m → at_method_of old.place.«module» old.place.item m.name (told m) ≡ at_method_of path item x.name (told x) =
      λ x same. (λ j. at_method_of (walked.«module» j) (walked.item j) m.name (told m)) ∙ ap (λ y. at_method_of path item y.name (told y)) (sym same) in
      let more = reports_more path item ms i m within in
      record {
        «module» = ap (λ h. h.place.«module») step ∙ walked.«module»;
        item = ap (λ h. h.place.item) step ∙ walked.item;
        reports =
            ap (λ h. h.reports) step
            ∙ (λ j. walked.reports j ++ here (get_or ms i m) (sym is) j)
            ∙ append_assoc start.reports (reports_of path item (take i ms)) (at_method_of path item (get_or ms i m).name (told (get_or ms i m)))
            ∙ ap (λ rs. start.reports ++ rs) (sym more);
        given = λ none.
            let parts = both_none (reports_of path item (take i ms)) (at_method_of path item (get_or ms i m).name (told (get_or ms i m))) (sym more ∙ none) in
            let fine : told m ≡ [] = untold (at_place path item (Some m.name)) (told m) (subst (λ x. at_method_of path item x.name (told x) ≡ []) (sym is) parts.1) in
            one fine ∙ ap (λ b. with_next_method (marks m) b (form m)) (walked.given parts.0)
            ∙ ap (λ x. with_next_method (marks x) (form_of (take i ms)) (form x)) is ∙ sym (form_more ms i m within);
      }

  -- all
  pub walk_told : (ms : List TraitMethod) (i : ℕ) (start now : Held) (made : Option (List A)) → Walked ms i start now made → length ms ≤ i
      → now.reports ≡ start.reports ++ reports_of start.place.«module» start.place.item ms
  walk_told ms i start now made walked past = walked.reports ∙ ap (λ xs. start.reports ++ reports_of start.place.«module» start.place.item xs) (take_all i ms past)

  pub walk_given : (ms : List TraitMethod) (i : ℕ) (start now : Held) (made : Option (List A)) → Walked ms i start now made → length ms ≤ i
      → reports_of start.place.«module» start.place.item ms ≡ [] → made ≡ form_of ms
  walk_given ms i start now made walked past =
      subst (λ xs. reports_of start.place.«module» start.place.item xs ≡ [] → made ≡ form_of xs) (take_all i ms past) walked.given
