-- What a store holds where the place of the next report changes, and what is made where nothing is reported.
use Rattle.std.proofs.Common.{◌≡◌, ℕ, List, [], ◌++◌, Option, Some, None, refl, sym, ap, ◌∙◌, append_assoc, append-nil}
use Rattle.std.specs.Prelude.{option_map}
use Rattle.hir_heads.specs.Told.{MadeUnlessTold}
use Rattle.hir_items.specs.Placing.{at_item_itself}
use Rattle.hir_items.specs.inside.Reported.{GivenUnlessReported}
use Rattle.hir_methods.specs.Choosing.{paired}
use Rattle.hir_modules.specs.Holding.{HoldsStill}
use Rattle.hir_reports.specs.Store.{Held, Keeps, added, at_item, at_place, at_subitem}
use Rattle.hir_reports.specs.declared.report.LoweringError.{LoweringError}
use Rattle.hir_reports.specs.declared.report.LoweringReport.{LoweringReport}
use Rattle.hir_traits.proofs.WalkLemmas.{both_none, untold}

-- ---- what was held

keeps_itself : (held : Held) → Keeps held held
keeps_itself held = record { more = []; reports = sym (append-nil held.reports); place = refl }

holds_after : (earlier old new : Held) → HoldsStill earlier old → Keeps old new → HoldsStill earlier new
holds_after earlier old new holds keeps = record {
  more = holds.more ++ keeps.more;
  reports = keeps.reports ∙ ap (λ rs. rs ++ keeps.more) holds.reports ∙ append_assoc earlier.reports holds.more keeps.more;
}

-- at a method, and at an item
pub holds_at_method : (earlier old new : Held) (name : List ℕ) → HoldsStill earlier old → ((before : Held) → Keeps before (at_subitem old (Some name)) → Keeps before new) → HoldsStill earlier new
holds_at_method earlier old new name holds keeps =
    holds_after earlier (at_subitem old (Some name)) new (record { more = holds.more; reports = holds.reports })
    (keeps (at_subitem old (Some name)) (keeps_itself (at_subitem old (Some name))))

pub holds_at_item : (earlier old new : Held) (name : List ℕ) → HoldsStill earlier old → ((before : Held) → Keeps before (at_item old name) → Keeps before new) → HoldsStill earlier new
holds_at_item earlier old new name holds keeps =
    holds_after earlier (at_item old name) new (record { more = holds.more; reports = holds.reports })
    (keeps (at_item old name) (keeps_itself (at_item old name)))

-- ---- what is told of an item, and then within it

pub told_within :
    (old mid : Held) (new : List LoweringReport) (name : List ℕ) (own : List LoweringError) (rest : List (List ℕ) → List ℕ → List LoweringReport) → mid ≡ added (at_item old name) own
    → new ≡ mid.reports ++ rest mid.place.«module» mid.place.item → new ≡ old.reports ++ (at_item_itself old.place.«module» name own ++ rest old.place.«module» name)
told_within old mid new name own rest before after =
    after ∙ ap (λ h. h.reports ++ rest h.place.«module» h.place.item) before
    ∙ append_assoc old.reports (at_item_itself old.place.«module» name own) (rest old.place.«module» name)

-- ---- what is made

with_form : {A B C : Type 0} (whole : A → B → C) (x : A) (form : Option B) → option_map (λ p. whole p.0 p.1) (paired (Some x) form) ≡ option_map (whole x) form
with_form whole x (Some y) = refl
with_form whole x None = refl

pub made_within :
    {A B C : Type 0} (whole : A → B → C) (x : A) (form : Option B) (first : Option A) (second : Option B) (path : List (List ℕ)) (name : List ℕ) (own : List LoweringError)
    (rest : List LoweringReport) → MadeUnlessTold own x first → GivenUnlessReported rest form second
    → GivenUnlessReported (at_item_itself path name own ++ rest) (option_map (whole x) form) (option_map (λ p. whole p.0 p.1) (paired first second))
made_within whole x form first second path name own rest one other = λ none.
    let parts = both_none (at_item_itself path name own) rest none in
    ap (λ a. option_map (λ p. whole p.0 p.1) (paired a second)) (one (untold (at_place path name None) own parts.0))
    ∙ ap (λ b. option_map (λ p. whole p.0 p.1) (paired (Some x) b)) (other parts.1) ∙ with_form whole x form
