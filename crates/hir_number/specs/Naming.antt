-- What the paths name that are written in one module.
use Rattle.std.specs.Prelude.{◌≡◌, ◌↔◌, ℕ, List, length, Bool, true, false, Option, Some, None}
use Rattle.bridge_decl.specs.declared.modules.Module.{Module}
use Rattle.bridge_decl.specs.declared.modules.Item.{Item}
use Rattle.bridge_decl.specs.declared.modules.Item.TheVariants as item
use Rattle.bridge_decl.specs.declared.traits.Trait.{Trait as TraitDeclaration}
use Rattle.bridge_ast.specs.declared.place.ItemPlace.{ItemPlace}
use Rattle.bridge_ast.specs.Types.{NamesType, NamesTrait}
use Rattle.hir_number.specs.declared.numbered.Kind.{Kind}
use Rattle.hir_number.specs.declared.numbered.Kind.TheVariants as kind

-- the type, and the trait, that a path of these segments names, each with its place
pub record Naming : Type 0 where
  pub type_at : List (List ℕ) → Option (Item × ItemPlace)
  pub trait_at : List (List ℕ) → Option (TraitDeclaration × ItemPlace)

-- they are those that it names by the cases of the Rust Reference, where it is written in the module of that number
pub record IsNaming (modules : List Module) (number : ℕ) (names : Naming) : Type 0 where
  pub types : (path : List (List ℕ)) (found : Item) (place : ItemPlace)
      → (names.type_at path ≡ Some (found, place)) ↔ NamesType modules number path found place
  pub traits : (path : List (List ℕ)) (found : TraitDeclaration) (place : ItemPlace)
      → (names.trait_at path ≡ Some (found, place)) ↔ NamesTrait modules number path found place

-- where a definition stands, and how many lifetimes it declares
pub record Definition : Type 0 where
  pub place : ItemPlace
  pub count : ℕ

-- of what kind a struct is
abbrev pub struct_kind : Bool → Kind
struct_kind true = kind.OutStruct
struct_kind false = kind.Struct

-- a definition with its kind
abbrev pub defined_as : Kind → ItemPlace → ℕ → Option (Definition × Kind)
defined_as kind place count = Some (record { place = place; count = count }, kind)

-- the definition that is named, and its kind: an enum declares no lifetimes
abbrev pub type_found : Option (Item × ItemPlace) → Option (Definition × Kind)
type_found None = None
type_found (Some (item.Struct it, place)) = defined_as (struct_kind it.output_only) place (length it.lifetimes.nodes)
type_found (Some (item.Opaque it, place)) = defined_as (kind.Opaque it.mutability) place (length it.lifetimes.nodes)
type_found (Some (item.Enum it, place)) = defined_as kind.Enum place 0
type_found (Some (item.Trait it, place)) = None
type_found (Some (item.Function it, place)) = None

-- the trait that is named
abbrev pub trait_found : Option (TraitDeclaration × ItemPlace) → Option Definition
trait_found None = None
trait_found (Some (it, place)) = Some (record { place = place; count = length it.lifetimes.nodes })
