-- Where nothing is told of how structs nest, they nest well.
use Rattle.std.proofs.Common.{◌≡◌, ◌<◌, ◌+◌, ◌-◌, ℕ, zero, suc, List, [], ◌∷◌, ◌++◌, Option, Some, None, ap, arith, get_or, inl, inr, length, map, refl, subst, sym, take, drop, ◌∙◌}
use Rattle.std.specs.Prelude.{Contains, option_and_then, option_map, slice_get, unwrap_or}
use Rattle.std.specs.List.{enumerate_from, flat_map}
use Rattle.std.proofs.lemmas.Bool.{cases_lt}
use Rattle.std.proofs.lemmas.List.{get_or-drop, get_or-take, get_or_default, length-map, length-append}
use Rattle.std.proofs.lemmas.List.FromFn.{get_or-enumerate_from, length-enumerate_from}
use Rattle.std.proofs.lemmas.Option.{unwrap_or-slice_get}
use Rattle.bridge_ast.specs.Types.{item_of}
use Rattle.bridge_ast.specs.declared.place.ItemPlace.{ItemPlace}
use Rattle.bridge_decl.specs.declared.modules.Item.{Item}
use Rattle.bridge_decl.specs.declared.modules.Module.{Module}
use Rattle.bridge_places.specs.Kinds.{item_kind}
use Rattle.bridge_places.specs.Places.{places_of}
use Rattle.bridge_places.specs.declared.kinds.Kind.{Kind}
use Rattle.bridge_places.specs.declared.kinds.Kind.TheVariants as kind
use Rattle.hir_form.specs.ParamForms.{all_given}
use Rattle.hir_ids.specs.declared.ids.TypeId.TheVariants as type
use Rattle.hir_mentions.specs.Mentions.{where_any}
use Rattle.hir_nesting.specs.Structs.{each_contained, struct_numbers}
use Rattle.hir_nesting.specs.declared.fault.NestingFault.{NestingFault}
use Rattle.hir_nesting_rules.specs.LoweredContainment.{lowered_containment}
use Rattle.hir_number.proofs.ElisionLemmas.{none_of}
use Rattle.hir_types.specs.Paths.{returnable_id}
use Rattle.hir_usage_notes.specs.declared.definitions.LoweredDefinitions.{LoweredDefinitions}
use Rattle.hir_lowering.specs.Kinds.{out_struct_made, struct_made}
use Rattle.hir_lowering.specs.Nesting.{each_nesting_report, nesting_reports_at, nesting_reports_of}
use Rattle.hir_lowering.specs.Placing.{beside_module, form_at, found_at}
use Rattle.hir_lower.proofs.TellingLemmas.{NestingUntold}

-- ---- lists

-- what gives nothing in all gives nothing at each place
all_none : {X A : Type 0} (f : X → List A) (xs : List X) → flat_map f xs ≡ [] → (k : ℕ) (d : X) → k < length xs → f (get_or xs k d) ≡ []
all_none f [] none k d within = absurd (let lt : k < 0 = within in omega arith)
all_none f (x ∷ xs) none zero d within = (none_of (f x) (flat_map f xs) none).0
all_none f (x ∷ xs) none (suc k) d within = all_none f xs (none_of (f x) (flat_map f xs) none).1 k d (omega arith)

-- what is made of each is as many
pub all_length : {A : Type 0} (xs : List (Option A)) (ys : List A) → all_given xs ≡ Some ys → length ys ≡ length xs
all_length [] ys is = let same : [] ≡ ys = cc in ap length (sym same)
all_length (None ∷ xs) ys is = absurd cc
all_length {A} (Some x ∷ xs) ys is = more (all_given xs) (all_length xs) refl is where
  more : (o : Option (List A)) → ((zs : List A) → all_given xs ≡ Some zs → length zs ≡ length xs) → all_given xs ≡ o → option_map (λ rest. x ∷ rest) o ≡ Some ys
      → length ys ≡ length (Some x ∷ xs)
  more None long rest all = absurd cc
  more (Some zs) long rest all = let same : x ∷ zs ≡ ys = cc in ap length (sym same) ∙ ap suc (long zs rest)

-- ---- at a place

-- the item at a place is found with its module
record StandsIn (modules : List Module) (place : ItemPlace) (i : Item) : Type 0 where
  «module» : Module
  found : found_at modules place ≡ Some («module», i)

stands_in : (modules : List Module) (place : ItemPlace) (i : Item) (m : Option Module) → slice_get modules place.«module» ≡ m
    → option_and_then (λ m. slice_get m.items place.item) m ≡ Some i → StandsIn modules place i
stands_in modules place i None is there = absurd cc
stands_in modules place i (Some m) is there = record {
  «module» = m;
  found = ap (λ o. option_and_then (λ m. beside_module m (slice_get m.items place.item)) o) is ∙ ap (λ o. beside_module m o) there;
}

no_fault : (found : Module × Item) (f : Option NestingFault) → nesting_reports_of f found ≡ [] → f ≡ None
no_fault found None none = refl
no_fault found (Some f) none = absurd cc

none_noted : (modules : List Module) (place : ItemPlace) (found : Module × Item) → found_at modules place ≡ Some found → (o : Option (Option NestingFault))
    → where_any (λ f. where_any (nesting_reports_of f) (found_at modules place)) o ≡ [] → unwrap_or o None ≡ None
none_noted modules place found there None none = refl
none_noted modules place found there (Some f) none = no_fault found f (ap (λ x. where_any (nesting_reports_of f) x) (sym there) ∙ none)

untold_at :
    (modules : List Module) (faults : List (Option NestingFault)) (n : ℕ) (place : ItemPlace) (i : Item) → item_of modules place ≡ Some i
    → nesting_reports_at modules faults (n, place) ≡ [] → get_or faults n None ≡ None
untold_at modules faults n place i there none =
    let at = stands_in modules place i (slice_get modules place.«module») refl there in
    sym (unwrap_or-slice_get faults n None) ∙ none_noted modules place (at.«module», i) at.found (slice_get faults n) none

-- an item of the kind stands at each place in the list of a kind
abbrev pub AreListed : Type 0
AreListed =
    (modules : List Module) (k : Kind) (place : ItemPlace) → Contains (places_of modules k) place
    → (i : Item) × (item_of modules place ≡ Some i) × (item_kind i ≡ k)

-- at the places of a kind
kind_untold :
    AreListed → (modules : List Module) (k : Kind) (faults : List (Option NestingFault)) → each_nesting_report modules faults (places_of modules k) ≡ []
    → (n : ℕ) → n < length (places_of modules k) → get_or faults n None ≡ None
kind_untold listed modules k faults none n within =
    let places = places_of modules k in
    let first : ItemPlace = record { «module» = 0; item = 0 } in
    let place : ItemPlace = get_or places n first in
    let here : ℕ × ItemPlace = (n, first) in
    let from_zero : 0 + n ≡ n = omega arith in
    let inside : n < length (enumerate_from 0 places) = subst (λ m. n < m) (sym (length-enumerate_from 0 places)) within in
    let is_at : get_or (enumerate_from 0 places) n here ≡ (n, place) = get_or-enumerate_from 0 places n here within ∙ ap (λ m. (m, place)) from_zero in
    let none_here = all_none (nesting_reports_at modules faults) (enumerate_from 0 places) none n here inside in
    let among : Contains places place = (n, within, get_or_default places n place first within) in
    let at = listed modules k place among in
    untold_at modules faults n place at.0 at.1 (ap (nesting_reports_at modules faults) (sym is_at) ∙ none_here)

-- ---- all structs

pub nesting_untold : AreListed → (modules : List Module) (d : LoweredDefinitions) → NestingUntold modules d
nesting_untold listed modules d it same all tells =
    let faults = tells.faults in
    let outs = length d.out_structs.items in
    let ins = length d.structs.items in
    let parts = none_of (each_nesting_report modules (drop outs faults) (places_of modules kind.Struct)) (each_nesting_report modules (take outs faults) (places_of modules kind.OutStruct)) (sym tells.told) in
    let out_places : outs ≡ length (places_of modules kind.OutStruct) =
    all_length (map (form_at it out_struct_made) (places_of it.modules kind.OutStruct)) d.out_structs.items all.out_structs
    ∙ length-map (places_of it.modules kind.OutStruct) (form_at it out_struct_made) ∙ ap (λ ms. length (places_of ms kind.OutStruct)) same in
    let in_places : ins ≡ length (places_of modules kind.Struct) =
    all_length (map (form_at it struct_made) (places_of it.modules kind.Struct)) d.structs.items all.structs
    ∙ length-map (places_of it.modules kind.Struct) (form_at it struct_made) ∙ ap (λ ms. length (places_of ms kind.Struct)) same in
    let out_ids = each_contained returnable_id d.out_structs.items in
    let in_ids = each_contained (λ path. type.Struct path.tcx_id) d.structs.items in
    let many : length (lowered_containment d) ≡ outs + ins =
    length-map (out_ids ++ in_ids) (struct_numbers (length out_ids) (length in_ids)) ∙ length-append out_ids in_ids
    ∙ ap (λ n. n + length in_ids) (length-map d.out_structs.items _) ∙ ap (λ n. outs + n) (length-map d.structs.items _) in
    tells.are.well (λ a within. elim (cases_lt a outs) [
      | inl below ↦ sym (get_or-take outs faults a None below) ∙ kind_untold listed modules kind.OutStruct (take outs faults) parts.1 a (subst (λ n. a < n) out_places below)
      | inr above ↦
          let later : ℕ = a - outs in
          let sum : outs + later ≡ a = omega arith in
          let inside : later < ins = omega (arith, many, within) in
          ap (λ n. get_or faults n None) (sym sum) ∙ sym (get_or-drop outs faults later None)
          ∙ kind_untold listed modules kind.Struct (drop outs faults) parts.0 later (subst (λ n. later < n) in_places inside)
    ])
