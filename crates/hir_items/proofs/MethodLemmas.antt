-- The loop over the methods of a type.
use Rattle.std.proofs.Common.{◌≡◌, ℕ, ◌+◌, ◌<◌, ◌≤◌, List, [], ◌∷◌, ◌++◌, length, take, map, get_or, Option, Some, None, refl, sym, ap, subst, ◌∙◌, append_assoc}
use Rattle.std.specs.List.{All, cons_option, filter_map, flat_map}
use Rattle.std.specs.Prelude.{Bool, true, false, cond, filter, is_some, not, option_map, if◌then◌else◌, IfOk, IsSome, OnOk, Result, Ok, Err}
use Rattle.bridge_ast.specs.declared.place.ItemPlace.{ItemPlace}
use Rattle.bridge_decl.specs.declared.methods.Method.{Method as DeclaredMethod}
use Rattle.hir_attrs.specs.Reading.{marks_of}
use Rattle.hir_attrs.specs.declared.attrs.Attrs.{Attrs}
use Rattle.std.proofs.lemmas.Grind.{flat_map-append}
use Rattle.std.proofs.lemmas.List.{append-nil, get_or-map, length-map, take_all, take_more}
use Rattle.std.proofs.lemmas.List.Elements.{filter_map-append}
use Rattle.hir_form.specs.ParamForms.{all_given}
use Rattle.hir_methods.specs.Methods.{enabled_form, method_errors}
use Rattle.hir_number.proofs.ElisionLemmas.{none_of}
use Rattle.hir_reports.specs.Store.{Held, at_subitem}
use Rattle.hir_reports.specs.declared.report.LoweringError.{LoweringError}
use Rattle.hir_reports.specs.declared.report.LoweringReport.{LoweringReport}
use Rattle.hir_items.specs.Inheriting.{method_start}
use Rattle.hir_items.specs.Placing.{at_method_of}
use Rattle.hir_items.specs.Setting.{Setting}
use Rattle.hir_items.specs.TypeMethods.{each_method_form, each_method_reports, is_enabled_method, method_reports, one_method_form}
use Rattle.hir_items.specs.inside.Joining.{after}
use Rattle.hir_items.specs.inside.Reported.{with_reports}

-- what holds of all that a list gives holds at each place
pub all_given_at : {X Y : Type 0} (P : Y → Type 0) (f : X → Y) (xs : List X) (i : ℕ) (x : X) → All P (map f xs) → i < length xs → P (f (get_or xs i x))
all_given_at P f xs i x all within = subst P (get_or-map f xs i x (f x) within) (all i (f x) (subst (λ n. i < n) (sym (length-map xs f)) within))

module _ {X Y : Type 0} (told : List (List ℕ) → List ℕ → X → List LoweringReport) (form : X → Option Y) where
  -- so far the first are told of, and those made that have a form, where nothing was told
  pub record MethodsSoFar (xs : List X) (i : ℕ) (start now : Held) (before made : List Y) : Type 0 where
    pub reports : now ≡ with_reports (at_subitem start None) (flat_map (told start.place.«module» start.place.item) (take i xs))
    pub forms : flat_map (told start.place.«module» start.place.item) (take i xs) ≡ [] → made ≡ before ++ filter_map form (take i xs)

  pub methods_begin : (xs : List X) (start now : Held) (before : List Y) → now ≡ at_subitem start None → MethodsSoFar xs 0 start now before before
  methods_begin xs start now before is = record {
    reports = is ∙ ap (λ rs. let h : Held = record { reports = rs; place = (at_subitem start None).place } in h) (sym (append-nil start.reports));
    forms = λ _. sym (append-nil before);
  }

  pub methods_go_on :
      (xs : List X) (i : ℕ) (x : X) (start mid new : Held) (before made more : List Y) (y : Option Y) → MethodsSoFar xs i start mid before made → i < length xs → x ≡ get_or xs i x
      → new ≡ with_reports (at_subitem mid None) (told mid.place.«module» mid.place.item x) → (told mid.place.«module» mid.place.item x ≡ [] → y ≡ form x) → more ≡ made ++ cons_option y []
      → MethodsSoFar xs (i + 1) start new before more
  methods_go_on xs i x start mid new before made more y far within is tells makes kept =
      let split : take (i + 1) xs ≡ take i xs ++ x ∷ [] = take_more xs i x within ∙ ap (λ z. take i xs ++ z ∷ []) (sym is) in
      let r = told start.place.«module» start.place.item in
      let all : flat_map r (take (i + 1) xs) ≡ flat_map r (take i xs) ++ r x =
      ap (flat_map r) split ∙ flat_map-append r (take i xs) (x ∷ []) ∙ ap (λ rs. flat_map r (take i xs) ++ rs) (append-nil (r x)) in
      let place = (at_subitem start None).place in
      let at : List LoweringReport → Held = λ rs. record { reports = rs; place = place } in
      record {
        reports =
            tells ∙ ap (λ (h : Held). with_reports (at_subitem h None) (told h.place.«module» h.place.item x)) far.reports
            ∙ ap at (append_assoc start.reports (flat_map r (take i xs)) (r x) ∙ ap (λ rs. start.reports ++ rs) (sym all));
        forms = λ none.
            let parts = none_of (flat_map r (take i xs)) (r x) (sym all ∙ none) in
            let here : told mid.place.«module» mid.place.item x ≡ [] = ap (λ (h : Held). told h.place.«module» h.place.item x) far.reports ∙ parts.1 in
            kept ∙ ap (λ ys. ys ++ cons_option y []) (far.forms parts.0) ∙ ap (λ z. (before ++ filter_map form (take i xs)) ++ cons_option z []) (makes here)
            ∙ append_assoc before (filter_map form (take i xs)) (cons_option (form x) [])
            ∙ ap (λ ys. before ++ ys) (sym (filter_map-append form (take i xs) (x ∷ [])) ∙ ap (filter_map form) (sym split));
      }

  pub methods_end : (xs : List X) (i : ℕ) (start now : Held) (before made : List Y) → MethodsSoFar xs i start now before made → length xs ≤ i
      → (now ≡ with_reports (at_subitem start None) (flat_map (told start.place.«module» start.place.item) xs))
      × (flat_map (told start.place.«module» start.place.item) xs ≡ [] → made ≡ before ++ filter_map form xs)
  methods_end xs i start now before made far past =
      subst (λ ys. (now ≡ with_reports (at_subitem start None) (flat_map (told start.place.«module» start.place.item) ys))
      × (flat_map (told start.place.«module» start.place.item) ys ≡ [] → made ≡ before ++ filter_map form ys)) (take_all i xs past) (far.reports, far.forms)

-- ---- the enabled ones

module _ {X Y : Type 0} (told : X → List LoweringReport) (form : X → Option Y) (on : X → Bool) (off : (x : X) → on x ≡ false → form x ≡ None)
    (fine : (x : X) → on x ≡ true → told x ≡ [] → IsSome (form x))
  where
    one_more :
        (b : Bool) (o : Option Y) (x : X) (rest : List X) (made : List Y) → on x ≡ b → form x ≡ o → told x ≡ [] → all_given (map form rest) ≡ Some made
        → all_given (map form (cond b (x ∷ rest) rest)) ≡ Some (cons_option o made)
    one_more true (Some y) x rest made is has none all = ap (λ o. all_given (o ∷ map form rest)) has ∙ ap (option_map (λ ys. y ∷ ys)) all
    one_more true None x rest made is has none all = let some : is_some (form x) ≡ true = fine x is none in absurd cc
    one_more false None x rest made is has none all = all
    one_more false (Some y) x rest made is has none all = let none : form x ≡ None = off x is in absurd cc

    -- where nothing is told, all that have a form are the enabled ones
    pub enabled_given : (xs : List X) → flat_map told xs ≡ [] → all_given (map form (filter on xs)) ≡ Some (filter_map form xs)
    enabled_given [] none = refl
    enabled_given (x ∷ xs) none =
        let parts = none_of (told x) (flat_map told xs) none in
        one_more (on x) (form x) x (filter on xs) (filter_map form xs) refl refl parts.0 (enabled_given xs parts.1)

enabled_flag : (b : Bool) → not b ≡ true → b ≡ false
enabled_flag true h = absurd cc
enabled_flag false h = refl

disabled_flag : (b : Bool) → not b ≡ false → b ≡ true
disabled_flag true h = refl
disabled_flag false h = absurd cc

pub untold_method : (path : List (List ℕ)) (item method : List ℕ) (errors : List LoweringError) → at_method_of path item method errors ≡ [] → errors ≡ []
untold_method path item method [] h = refl
untold_method path item method (e ∷ es) h = absurd cc

-- so of methods
pub methods_formed :
    (s : Setting) (path : List (List ℕ)) (item : List ℕ) (place : ItemPlace) (set : Attrs)
    → ((method : DeclaredMethod) → (marks_of s.backend method.attrs (method_start set)).disable ≡ false
    → method_errors s.backend s.support s.config s.catalog s.names place (method_start set) method ≡ [] → IsSome (one_method_form s place set method))
    → (methods : List DeclaredMethod) → each_method_reports s path item place set methods ≡ []
    → each_method_form s place set methods ≡ Some (filter_map (one_method_form s place set) methods)
methods_formed s path item place set fine methods none =
    enabled_given (method_reports s path item place set) (one_method_form s place set) (is_enabled_method s.backend set)
    (λ method off.
    let marks = marks_of s.backend method.attrs (method_start set) in
    ap (λ (b : Bool). if b then None else enabled_form s.backend s.catalog s.names place marks method) (disabled_flag marks.disable off))
    (λ method on untold.
    let start = method_start set in
    fine method (enabled_flag (marks_of s.backend method.attrs start).disable on)
    (untold_method path item method.name (method_errors s.backend s.support s.config s.catalog s.names place start method) untold))
    methods none

-- what was made stays where all after it went well
pub after_made : {A B E : Type 0} (N : Type 0) (form : Option A) (made : A) (done : Result B E) (result : Result A E) → result ≡ after made done → OnOk done (N → form ≡ Some made)
    → IfOk result (λ x. N → form ≡ Some x)
after_made N form made (Ok b) result is given = subst (λ r. IfOk r (λ x. N → form ≡ Some x)) (sym is) given
after_made N form made (Err e) result is given = subst (λ r. IfOk r (λ x. N → form ≡ Some x)) (sym is) tt

pub after_told : {A B E : Type 0} (P : Type 0) (made : A) (done : Result B E) (result : Result A E) → result ≡ after made done → OnOk done P → OnOk result P
after_told P made (Ok b) result is p = subst (λ r. OnOk r P) (sym is) p
after_told P made (Err e) result is p = subst (λ r. OnOk r P) (sym is) tt
