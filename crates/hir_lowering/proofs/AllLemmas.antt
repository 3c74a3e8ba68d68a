-- Where nothing is told of any item, each is made.
use Rattle.std.proofs.Common.{◌≡◌, ◌<◌, ◌+◌, ℕ, zero, suc, List, [], ◌∷◌, ◌++◌, Bool, true, false, Option, Some, None, if◌then◌else◌, ap, arith, length, refl, subst, sym, ◌∙◌}
use Rattle.std.specs.Prelude.{Contains, IsSome, is_some, map, option_and_then, option_map, slice_get}
use Rattle.std.specs.List.{cons_option, filter_map, flat_map}
use Rattle.std.proofs.lemmas.List.Elements.{Contains-append_left, Contains-append_right, Contains-push}
use Rattle.bridge_ast.specs.Types.{item_of}
use Rattle.bridge_ast.specs.declared.place.ItemPlace.{ItemPlace}
use Rattle.bridge_decl.specs.declared.modules.Item.{Item}
use Rattle.bridge_decl.specs.declared.modules.Module.{Module}
use Rattle.bridge_places.specs.Kinds.{item_kind}
use Rattle.bridge_places.specs.Places.{places_of}
use Rattle.bridge_places.specs.declared.kinds.Kind.{Kind}
use Rattle.hir_form.specs.ParamForms.{all_given}
use Rattle.hir_items.specs.Placing.{unless_reported}
use Rattle.hir_mentions.specs.Mentions.{where_any}
use Rattle.hir_number.proofs.ElisionLemmas.{none_of}
use Rattle.hir_reports.specs.declared.report.LoweringReport.{LoweringReport}
use Rattle.hir_lowering.specs.Interface.{Interface}
use Rattle.hir_lowering.specs.Kinds.{ItemMaking, ItemTelling}
use Rattle.hir_lowering.specs.Placing.{beside_module, each_form, each_made, each_report, form_at, form_of, found_at, made_at, reports_at, reports_of}

-- what is made of a list of which nothing is told, is made of each
module _ {X D : Type 0} (told : X → List LoweringReport) (form : X → Option D) where
  unless_none : (x : X) → told x ≡ [] → unless_reported (told x) (form x) ≡ form x
  unless_none x none = ap (λ rs. unless_reported rs (form x)) none

  one_given : (o : Option D) (rest : List (Option D)) (made : List D) → IsSome o → all_given rest ≡ Some made → all_given (o ∷ rest) ≡ Some (cons_option o made)
  one_given (Some d) rest made some all = ap (option_map (λ ds. d ∷ ds)) all
  one_given None rest made some all = absurd cc

  pub all_made : (xs : List X) → ((x : X) → Contains xs x → told x ≡ [] → IsSome (form x)) → flat_map told xs ≡ []
      → all_given (map form xs) ≡ Some (filter_map (λ x. unless_reported (told x) (form x)) xs)
  all_made [] fine none = refl
  all_made (x ∷ xs) fine none =
      let parts = none_of (told x) (flat_map told xs) none in
      let rest = all_made xs (λ y at. fine y (Contains-append_right (x ∷ []) xs y at)) parts.1 in
      one_given (form x) (map form xs) (filter_map (λ y. unless_reported (told y) (form y)) xs) (fine x (Contains-append_left (x ∷ []) xs x (Contains-push [] x)) parts.0) rest
      ∙ ap (λ o. Some (cons_option o (filter_map (λ y. unless_reported (told y) (form y)) xs))) (sym (unless_none x parts.0))

-- ---- at a place

-- the item at a place is found with a module
pub record FoundThere (modules : List Module) (place : ItemPlace) (i : Item) : Type 0 where
  pub «module» : Module
  pub found : found_at modules place ≡ Some («module», i)

pub found_in : (modules : List Module) (place : ItemPlace) (i : Item) (m : Option Module) → slice_get modules place.«module» ≡ m
    → option_and_then (λ m. slice_get m.items place.item) m ≡ Some i → FoundThere modules place i
found_in modules place i None is there = absurd cc
found_in modules place i (Some m) is there = record {
  «module» = m;
  found = ap (λ o. option_and_then (λ m. beside_module m (slice_get m.items place.item)) o) is ∙ ap (λ o. beside_module m o) there;
}

-- where nothing is told of what is found, it is made
pub fine_there :
    {D : Type 0} (it : Interface) (told : ItemTelling) (made : ItemMaking D) (place : ItemPlace) (i : Item)
    → ((m : Module) → reports_of it told place (m, i) ≡ [] → IsSome (form_of it made place (m, i)))
    → item_of it.modules place ≡ Some i → reports_at it told place ≡ [] → IsSome (form_at it made place)
fine_there it told made place i fine there none =
    let at = found_in it.modules place i (slice_get it.modules place.«module») refl there in
    let untold = sym (ap (λ o. where_any (reports_of it told place) o) at.found) ∙ none in
    subst (λ o. IsSome (option_and_then (form_of it made place) o)) (sym at.found) (fine at.«module» untold)

-- so of all items of a kind
pub kind_made :
    {D : Type 0} (it : Interface) (told : ItemTelling) (made : ItemMaking D) (k : Kind)
    → ((place : ItemPlace) → Contains (places_of it.modules k) place → (i : Item) × (item_of it.modules place ≡ Some i) × (item_kind i ≡ k))
    → ((place : ItemPlace) (m : Module) (i : Item) → item_kind i ≡ k → reports_of it told place (m, i) ≡ [] → IsSome (form_of it made place (m, i)))
    → each_report it told (places_of it.modules k) ≡ [] → each_form it made (places_of it.modules k) ≡ Some (each_made it told made (places_of it.modules k))
kind_made it told made k listed fine none =
    all_made (reports_at it told) (form_at it made) (places_of it.modules k)
    (λ place among untold. let at = listed place among in fine_there it told made place at.0 (λ m. fine place m at.0 at.2) at.1 untold)
    none
