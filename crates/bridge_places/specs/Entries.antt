-- What a catalog says of modules.
use Rattle.std.specs.Prelude.{◌≡◌, ℕ, List, [], ◌∷◌, Bool, true, false, Option, Some, None, length, slice_get}
use Rattle.bridge_decl.specs.declared.modules.Module.{Module}
use Rattle.bridge_decl.specs.declared.modules.Item.{Item}
use Rattle.bridge_decl.specs.declared.modules.Item.TheVariants as item
use Rattle.bridge_decl.specs.declared.structs.Field.{Field}
use Rattle.bridge_ast.specs.Types.{item_of}
use Rattle.bridge_ast.specs.declared.place.ItemPlace.{ItemPlace}
use Rattle.bridge_order.specs.Catalog.{entry_at, id_of}
use Rattle.bridge_order.specs.declared.catalog.Catalog.{Catalog}
use Rattle.bridge_order.specs.declared.catalog.Entry.{Entry}
use Rattle.bridge_order.specs.declared.catalog.Entry.TheVariants as entry
use Rattle.bridge_places.specs.Kinds.{item_kind}
use Rattle.bridge_places.specs.Places.{places_of}

-- whether there are fields
abbrev pub has_fields : List Field → Bool
has_fields [] = false
has_fields (f ∷ fields) = true

-- what is kept of a struct, which may be one that only comes out
abbrev pub entry_of_struct : ℕ → Bool → Bool → Entry
entry_of_struct id true has_some = entry.OutStruct id has_some
entry_of_struct id false has_some = entry.Struct id has_some

-- what is kept of an item with a number among those of its kind
abbrev pub entry_of : ℕ → Item → Entry
entry_of id (item.Struct s) = entry_of_struct id s.output_only (has_fields s.fields)
entry_of id (item.Opaque o) = entry.Opaque id o.mutability
entry_of id (item.Enum e) = entry.Enum id
entry_of id (item.Trait t) = entry.Trait id
entry_of id (item.Function f) = entry.Function id

-- the entry is what is kept of the item, and its number is that of the item's place among those of its kind
pub record Describes (modules : List Module) (it : Item) (place : ItemPlace) (e : Entry) : Type 0 where
  pub is : e ≡ entry_of (id_of e) it
  pub number : slice_get (places_of modules (item_kind it)) (id_of e) ≡ Some place

-- so many entries as the module has items
pub record HasEntriesOf (m : Module) (found : Option (List Entry)) : Type 0 where
  pub entries : List Entry
  pub has : found ≡ Some entries
  pub count : length entries ≡ length m.items

-- each item has its entry, and where no item stands there counts an enum; and there is nothing besides, so that modules have one catalog
pub record IsCatalog (modules : List Module) (catalog : Catalog) : Type 0 where
  pub entries : (place : ItemPlace) (it : Item) → item_of modules place ≡ Some it → Describes modules it place (entry_at catalog place)
  pub others : (place : ItemPlace) → item_of modules place ≡ None → entry_at catalog place ≡ entry.Enum 0
  pub count : length catalog.modules ≡ length modules
  pub whole : (n : ℕ) (m : Module) → slice_get modules n ≡ Some m → HasEntriesOf m (slice_get catalog.modules n)
