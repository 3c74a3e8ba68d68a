-- The types and traits that paths name.
use Rattle.std.specs.Prelude.{◌≡◌, ℕ, List, slice_get, Bool, true, false, Option, Some, option_map, option_and_then}
use Rattle.bridge_decl.specs.declared.modules.Module.{Module}
use Rattle.bridge_decl.specs.declared.modules.Item.{Item}
use Rattle.bridge_decl.specs.declared.modules.Item.TheVariants.{Struct, Opaque, Enum, Trait, Function}
use Rattle.bridge_decl.specs.declared.traits.Trait.{Trait as TraitDeclaration}
use Rattle.bridge_ast.specs.declared.resolution.CustomType.{CustomType}
use Rattle.bridge_ast.specs.declared.resolution.CustomType.TheVariants as custom
use Rattle.bridge_ast.specs.declared.resolution.TraitAt.{TraitAt}
use Rattle.bridge_ast.specs.declared.place.ItemPlace.{ItemPlace}
use Rattle.bridge_ast.specs.Paths.{NamesItem}

-- the item at a place
abbrev pub item_of : List Module → ItemPlace → Option Item
item_of modules place = option_and_then (λ m. slice_get m.items place.item) (slice_get modules place.«module»)

-- whether an item is a type: a struct, an opaque or an enum
abbrev pub is_type : Item → Bool
is_type (Struct item) = true
is_type (Opaque item) = true
is_type (Enum item) = true
is_type (Trait item) = false
is_type (Function item) = false

-- the path names the item at the place, and that is a type
pub record NamesType (modules : List Module) (number : ℕ) (path : List (List ℕ)) (item : Item) (place : ItemPlace) : Type 0 where
  pub names : NamesItem modules number path place
  pub stands : item_of modules place ≡ Some item
  pub kind : is_type item ≡ true

-- the path names the item at the place, and that is a trait
pub record NamesTrait (modules : List Module) (number : ℕ) (path : List (List ℕ)) (decl : TraitDeclaration) (place : ItemPlace)
    : Type 0 where
  pub names : NamesItem modules number path place
  pub stands : item_of modules place ≡ Some (Trait decl)

-- a type as an item, with its place
abbrev pub item_seen : CustomType → Item × ItemPlace
item_seen (custom.Struct item place) = (Struct item.now, place)
item_seen (custom.Opaque item place) = (Opaque item.now, place)
item_seen (custom.Enum item place) = (Enum item.now, place)

-- what is found of a type, as an item with its place
abbrev pub type_seen : Option CustomType → Option (Item × ItemPlace)
type_seen found = option_map item_seen found

-- what is found of a trait, as its declaration with its place
abbrev pub trait_seen : Option TraitAt → Option (TraitDeclaration × ItemPlace)
trait_seen found = option_map (λ t. (t.decl.now, t.place)) found
