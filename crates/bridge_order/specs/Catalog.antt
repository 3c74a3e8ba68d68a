-- What the items of an environment are, by their places.
use Rattle.std.specs.Prelude.{ℕ, List, Option, Some, None, slice_get}
use Rattle.bridge_ast.specs.declared.place.ItemPlace.{ItemPlace}
use Rattle.bridge_order.specs.declared.catalog.Catalog.{Catalog}
use Rattle.bridge_order.specs.declared.catalog.Entry.{Entry}
use Rattle.bridge_order.specs.declared.catalog.Entry.TheVariants as entry

-- the number of an item among those of its kind
abbrev pub id_of : Entry → ℕ
id_of (entry.Struct id has_fields) = id
id_of (entry.OutStruct id has_fields) = id
id_of (entry.Opaque id mark) = id
id_of (entry.Enum id) = id
id_of (entry.Trait id) = id
id_of (entry.Function id) = id

-- a place that the catalog doesn't have counts as an enum
abbrev pub entry_or : Option Entry → Entry
entry_or (Some e) = e
entry_or None = entry.Enum 0

abbrev pub entry_in : List Entry → ℕ → Entry
entry_in entries item = entry_or (slice_get entries item)

abbrev pub module_entry : Option (List Entry) → ℕ → Entry
module_entry (Some entries) item = entry_in entries item
module_entry None item = entry.Enum 0

-- what stands at a place
abbrev pub entry_at : Catalog → ItemPlace → Entry
entry_at catalog place = module_entry (slice_get catalog.modules place.«module») place.item
