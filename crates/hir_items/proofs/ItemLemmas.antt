-- What is told of an item and made of it, from its parts.
use Rattle.std.proofs.Common.{◌≡◌, ℕ, ◌+◌, ◌<◌, List, [], ◌∷◌, ◌++◌, length, length-append, map, Option, Some, None, Result, Ok, Err, arith, refl, sym, ap, subst, ◌∙◌, append_assoc, append-nil}
use Rattle.std.specs.Prelude.{IfOk, OnOk, option_map}
use Rattle.std.proofs.lemmas.List.{map-append}
use Rattle.hir_form.specs.ReturnForms.{both_given}
use Rattle.hir_methods.specs.Types.{unless_told}
use Rattle.hir_modules.specs.Holding.{HoldsStill}
use Rattle.hir_number.proofs.ElisionLemmas.{none_of}
use Rattle.hir_reports.specs.Store.{Held, Keeps, added, at_item, at_place, at_subitem, told_at}
use Rattle.hir_reports.specs.declared.report.LoweringError.{LoweringError}
use Rattle.hir_reports.specs.declared.report.LoweringReport.{LoweringReport}
use Rattle.hir_items.proofs.HoldLemmas.{held_on, held_then}
use Rattle.hir_items.specs.Placing.{at_item_itself, unless_reported}
use Rattle.hir_items.specs.inside.Joining.{definition_of}
use Rattle.hir_items.specs.inside.Reported.{GivenUnlessReported, with_reports}

-- where nothing is reported, nothing is told
pub untold : (path : List (List ℕ)) (name : List ℕ) (errors : List LoweringError) → at_item_itself path name errors ≡ [] → errors ≡ []
untold path name [] h = refl
untold path name (e ∷ es) h = absurd cc

-- so is what there is where nothing is told
pub as_reported : {A : Type 0} (path : List (List ℕ)) (name : List ℕ) (errors : List LoweringError) (form : Option A) → unless_told errors form ≡ unless_reported (at_item_itself path name errors) form
as_reported path name [] form = refl
as_reported path name (e ∷ es) form = refl

-- where the methods were made, so is the whole
pub defined_on :
    {W N M D E : Type 0} (P : Type 0) (define : W → N → List M → D) (notes : W) (own : Option N) (methods : Result (List M) E) (result : Result (Option D) E)
    → IfOk result (λ made. Ok made ≡ definition_of define notes own methods) → OnOk methods P → OnOk result P
defined_on P define notes own methods (Err e) is p = tt
defined_on P define notes own (Ok ms) (Ok made) is p = p
defined_on P define notes own (Err e) (Ok made) is p = absurd cc

-- with these methods
all_defined : {N M D : Type 0} (define : N → List M → D) (own : Option N) (ms : List M) → option_map (λ n. define n ms) own ≡ both_given define own (Some ms)
all_defined define (Some n) ms = refl
all_defined define None ms = refl

-- of one form
pub one_given : {A B C : Type 0} (f : A → B → C) (x : A) (form : Option B) → both_given f (Some x) form ≡ option_map (f x) form
one_given f x (Some y) = refl
one_given f x None = refl

module _ {W L : Type 0} (of_notes : List LoweringError) (of_own : W → List LoweringError) (of_methods : W → L → List (List ℕ) → List ℕ → List LoweringReport) where
  -- what is reported of an item of these notes and methods
  abbrev itself : W → L → List (List ℕ) → List ℕ → List LoweringReport
  itself w l path name = at_item_itself path name (of_notes ++ of_own w) ++ of_methods w l path name

  -- one was told of part by part, but for its methods: its name and its methods were lent, its notes read
  pub record Parts (noted notes : W) (lent methods : L) (shown name : List ℕ) (start at mid own : Held) : Type 0 where
    pub reads : noted ≡ notes
    pub lends : lent ≡ methods
    pub shows : shown ≡ name
    pub goes : at ≡ at_item start shown
    pub first : mid ≡ added at of_notes
    pub second : own ≡ added mid (of_own noted)

  module _ {noted notes : W} {lent methods : L} {shown name : List ℕ} {start at mid own : Held} (parts : Parts noted notes lent methods shown name start at mid own) where
    stands : own ≡ added (added (at_item start shown) of_notes) (of_own noted)
    stands = parts.second ∙ ap (λ h. added h (of_own noted)) (parts.first ∙ ap (λ h. added h of_notes) parts.goes)

    same_itself : itself noted lent start.place.«module» shown ≡ itself notes methods start.place.«module» name
    same_itself =
        ap (λ w. itself w lent start.place.«module» shown) parts.reads ∙ ap (λ l. itself notes l start.place.«module» shown) parts.lends
        ∙ ap (itself notes methods start.place.«module») parts.shows

    -- with its methods
    pub item_told : (now : Held) → now ≡ with_reports (at_subitem own None) (of_methods noted lent own.place.«module» own.place.item) → now.reports ≡ start.reports ++ itself notes methods start.place.«module» name
    item_told now told =
        let f = told_at (at_place start.place.«module» shown None) in
        let rest = of_methods noted lent start.place.«module» shown in
        ap (λ (h : Held). h.reports) told
        ∙ ap (λ (h : Held). h.reports ++ of_methods noted lent h.place.«module» h.place.item) stands
        ∙ ap (λ rs. rs ++ rest) (append_assoc start.reports (map f of_notes) (map f (of_own noted)) ∙ ap (λ rs. start.reports ++ rs) (sym (map-append f of_notes (of_own noted))))
        ∙ append_assoc start.reports (map f (of_notes ++ of_own noted)) rest
        ∙ ap (λ rs. start.reports ++ rs) same_itself

    module _ {N M D : Type 0} (define : W → N → List M → D) (form : W → Option N) (methods_form : W → L → Option (List M)) where
      made_of :
          {E : Type 0} (has : Option N) (lowered : Result (List M) E) → (of_own noted ≡ [] → has ≡ form noted)
          → IfOk lowered (λ ms. of_methods noted lent start.place.«module» shown ≡ [] → methods_form noted lent ≡ Some ms)
          → IfOk (definition_of define noted has lowered) (GivenUnlessReported (itself noted lent start.place.«module» shown) (both_given (define noted) (form noted) (methods_form noted lent)))
      made_of has (Err e) made formed = tt
      made_of has (Ok ms) made formed = λ none.
          let both = none_of (at_item_itself start.place.«module» shown (of_notes ++ of_own noted)) (of_methods noted lent start.place.«module» shown) none in
          let own_none = none_of of_notes (of_own noted) (untold start.place.«module» shown (of_notes ++ of_own noted) both.0) in
          ap (option_map (λ n. define noted n ms)) (made own_none.1) ∙ all_defined (define noted) (form noted) ms ∙ ap (both_given (define noted) (form noted)) (sym (formed both.1))

      pub item_made :
          {E : Type 0} (has : Option N) (lowered : Result (List M) E) (result : Result (Option D) E) → (of_own noted ≡ [] → has ≡ form noted)
          → IfOk lowered (λ ms. of_methods noted lent own.place.«module» own.place.item ≡ [] → methods_form noted lent ≡ Some ms) → IfOk result (λ x. Ok x ≡ definition_of define noted has lowered)
          → IfOk result (GivenUnlessReported (itself notes methods start.place.«module» name) (both_given (define notes) (form notes) (methods_form notes methods)))
      item_made has lowered (Err e) made formed defines = tt
      item_made {E} has lowered (Ok x) made formed defines =
          let result : Result (Option D) E = Ok x in
          subst (λ rs. IfOk result (GivenUnlessReported rs (both_given (define notes) (form notes) (methods_form notes methods)))) same_itself
          (subst (λ l. IfOk result (GivenUnlessReported (itself noted lent start.place.«module» shown) (both_given (define notes) (form notes) (methods_form notes l)))) parts.lends
          (subst (λ w. IfOk result (GivenUnlessReported (itself noted lent start.place.«module» shown) (both_given (define w) (form w) (methods_form w lent)))) parts.reads
          (subst (λ r. IfOk r (GivenUnlessReported (itself noted lent start.place.«module» shown) (both_given (define noted) (form noted) (methods_form noted lent)))) (sym defines)
          (made_of has lowered made
          (subst (λ (h : Held). IfOk lowered (λ ms. of_methods noted lent h.place.«module» h.place.item ≡ [] → methods_form noted lent ≡ Some ms)) stands formed)))))

-- what is still held
pub noted_kept : (start at noted : Held) (name : List ℕ) → at ≡ at_item start name → ((earlier : Held) → Keeps earlier at → Keeps earlier noted) → HoldsStill start noted
noted_kept start at noted name here keeps = held_on start at noted (ap (λ (h : Held). h.reports) here) keeps

pub item_kept :
    (start at noted own now : Held) (name : List ℕ) → at ≡ at_item start name → ((earlier : Held) → Keeps earlier at → Keeps earlier noted)
    → ((earlier : Held) → Keeps earlier noted → Keeps earlier own) → HoldsStill own now → HoldsStill start now
item_kept start at noted own now name here notes more methods =
    held_then start own now (noted_kept start at own name here (λ earlier keeps. more earlier (notes earlier keeps))) methods

-- what is made, unless there are more reports than before
pub made_unless_more :
    {A : Type 0} (old now reports : List LoweringReport) (form made result : Option A) → now ≡ old ++ reports → GivenUnlessReported reports form made
    → (length now ≡ length old → result ≡ made) → (length old < length now → result ≡ None) → result ≡ unless_reported reports form
made_unless_more old now [] form made result is given same more = same (ap length (is ∙ append-nil old)) ∙ given refl
made_unless_more old now (r ∷ rs) form made result is given same more =
    let long : length now ≡ length old + length (r ∷ rs) = ap length is ∙ length-append old (r ∷ rs) in
    more (omega (arith, long))
