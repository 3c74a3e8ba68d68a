-- The types and traits that paths name, case by case.
use Rattle.std.proofs.Common.{◌≡◌, ℕ, true, List, Option, Some, None, refl, sym, ap, ◌∙◌, subst, ◌↔◌}
use Rattle.std.specs.Prelude.{option_map, option_and_then}
use Rattle.bridge_decl.specs.declared.modules.Module.{Module}
use Rattle.bridge_decl.specs.declared.modules.Item.{Item}
use Rattle.bridge_decl.specs.declared.modules.Item.TheVariants.{Struct, Opaque, Enum, Trait, Function}
use Rattle.bridge_decl.specs.declared.traits.Trait.{Trait as TraitDeclaration}
use Rattle.bridge_ast.specs.declared.resolution.CustomType.{CustomType}
use Rattle.bridge_ast.specs.declared.resolution.TraitAt.{TraitAt}
use Rattle.bridge_ast.specs.declared.place.ItemPlace.{ItemPlace}
use Rattle.bridge_ast.specs.inside.Resolution.{named_item}
use Rattle.bridge_ast.specs.inside.Scopes.{ArePaths}
use Rattle.bridge_ast.specs.inside.Fitting.{FitInOrder}
use Rattle.bridge_ast.specs.Types.{item_of, is_type, NamesType, NamesTrait, item_seen, type_seen, trait_seen}
use Rattle.bridge_ast.specs.inside.Resolution.{as_type, as_trait, named_type, named_trait}
use Rattle.bridge_ast.specs.inside.Trails.{IsModule}
use Rattle.bridge_ast.proofs.NamedLemmas.{pair_parts}
use Rattle.bridge_ast.proofs.PathNameLemmas.{names_where_led}

-- what is read from the item at a place that is found
read_from : {Y : Type 0} (found : Option ItemPlace) (items : ItemPlace → Option Item) (read : ItemPlace → Item → Option Y) (y : Y) → option_and_then (λ place. option_and_then (read place) (items place)) found ≡ Some y
    → (place : ItemPlace) × (item : Item) × (found ≡ Some place) × (items place ≡ Some item) × (read place item ≡ Some y)
read_from None items read y h = absurd cc
read_from (Some place) items read y h = by (items place) refl h
  where
    by : (o : Option Item) → items place ≡ o → option_and_then (read place) o ≡ Some y → (there : ItemPlace) × (item : Item) × (Some place ≡ Some there) × (items there ≡ Some item) × (read there item ≡ Some y)
    by None e g = absurd cc
    by (Some item) e g = (place, item, refl, e, g)

type_read : (at : ItemPlace) (item found : Item) (place : ItemPlace) → as_type at item ≡ Some (found, place) → (item ≡ found) × (at ≡ place) × (is_type item ≡ true)
type_read at (Struct item) found place h = let (same, there) = pair_parts (Struct item) found at place h in (same, there, refl)
type_read at (Opaque item) found place h = let (same, there) = pair_parts (Opaque item) found at place h in (same, there, refl)
type_read at (Enum item) found place h = let (same, there) = pair_parts (Enum item) found at place h in (same, there, refl)
type_read at (Trait item) found place h = absurd cc
type_read at (Function item) found place h = absurd cc

type_kept : (place : ItemPlace) (item : Item) → is_type item ≡ true → as_type place item ≡ Some (item, place)
type_kept place (Struct item) h = refl
type_kept place (Opaque item) h = refl
type_kept place (Enum item) h = refl
type_kept place (Trait item) h = absurd cc
type_kept place (Function item) h = absurd cc

trait_read : (at : ItemPlace) (item : Item) (found : TraitDeclaration) (place : ItemPlace) → as_trait at item ≡ Some (found, place) → (item ≡ Trait found) × (at ≡ place)
trait_read at (Struct item) found place h = absurd cc
trait_read at (Opaque item) found place h = absurd cc
trait_read at (Enum item) found place h = absurd cc
trait_read at (Trait item) found place h = let (same, there) = pair_parts item found at place h in (ap (λ x. Trait x) same, there)
trait_read at (Function item) found place h = absurd cc

-- an answer is none exactly where nothing is so as it would be of some answer
none_where : {X Y Z : Type 0} (f : X → Y × Z) (found : Option X) (P : Y → Z → Type 0) → ((y : Y) (z : Z) → (option_map f found ≡ Some (y, z)) ↔ P y z) → (found ≡ None) ↔ ((y : Y) (z : Z) → ¬ P y z)
none_where f None P some = (λ h y z p. (let e : None ≡ Some (y, z) = (some y z).1 p in cc), λ h. refl)
none_where f (Some x) P some = (λ h. absurd cc, λ h. absurd (h (f x).0 (f x).1 ((some (f x).0 (f x).1).0 refl)))

module _ (modules : List Module) (are : ArePaths modules) (sound : FitInOrder modules) (number : ℕ) (path : List (List ℕ)) (is_module : IsModule modules number) where
  type_named : (item : Item) (place : ItemPlace) → (named_type modules number path ≡ Some (item, place)) ↔ NamesType modules number path item place
  type_named item place = (
    λ h.
        let (at, found, led, stands, read) = read_from (named_item modules number path) (item_of modules) as_type (item, place) h in
        let (same, there, kind) = type_read at found item place read in
        record {
          names = (names_where_led modules are sound place number path is_module).0 (led ∙ ap Some there);
          stands = ap (item_of modules) (sym there) ∙ stands ∙ ap Some same;
          kind = ap is_type (sym same) ∙ kind;
        },
    λ names.
        ap (λ o. option_and_then (λ at. option_and_then (as_type at) (item_of modules at)) o) ((names_where_led modules are sound place number path is_module).1 names.names)
        ∙ ap (λ o. option_and_then (as_type place) o) names.stands
        ∙ type_kept place item names.kind,
  )

  trait_named : (decl : TraitDeclaration) (place : ItemPlace) → (named_trait modules number path ≡ Some (decl, place)) ↔ NamesTrait modules number path decl place
  trait_named decl place = (
    λ h.
        let (at, found, led, stands, read) = read_from (named_item modules number path) (item_of modules) as_trait (decl, place) h in
        let (same, there) = trait_read at found decl place read in
        record {
          names = (names_where_led modules are sound place number path is_module).0 (led ∙ ap Some there);
          stands = ap (item_of modules) (sym there) ∙ stands ∙ ap Some same;
        },
    λ names.
        ap (λ o. option_and_then (λ at. option_and_then (as_trait at) (item_of modules at)) o) ((names_where_led modules are sound place number path is_module).1 names.names)
        ∙ ap (λ o. option_and_then (as_trait place) o) names.stands,
  )

  -- what is told of an answer that is as it is computed

  pub type_told : (result : Option CustomType) → type_seen result ≡ named_type modules number path → (item : Item) (place : ItemPlace) → (type_seen result ≡ Some (item, place)) ↔ NamesType modules number path item place
  type_told result is item place = subst (λ o. (o ≡ Some (item, place)) ↔ NamesType modules number path item place) (sym is) (type_named item place)

  pub no_type_told : (result : Option CustomType) → type_seen result ≡ named_type modules number path → (result ≡ None) ↔ ((item : Item) (place : ItemPlace) → ¬ NamesType modules number path item place)
  no_type_told result is = none_where item_seen result (NamesType modules number path) (type_told result is)

  pub trait_told : (result : Option TraitAt) → trait_seen result ≡ named_trait modules number path → (decl : TraitDeclaration) (place : ItemPlace) → (trait_seen result ≡ Some (decl, place)) ↔ NamesTrait modules number path decl place
  trait_told result is decl place = subst (λ o. (o ≡ Some (decl, place)) ↔ NamesTrait modules number path decl place) (sym is) (trait_named decl place)

  pub no_trait_told : (result : Option TraitAt) → trait_seen result ≡ named_trait modules number path → (result ≡ None) ↔ ((decl : TraitDeclaration) (place : ItemPlace) → ¬ NamesTrait modules number path decl place)
  no_trait_told result is = none_where (λ (t : TraitAt). (t.decl.now, t.place)) result (NamesTrait modules number path) (trait_told result is)
