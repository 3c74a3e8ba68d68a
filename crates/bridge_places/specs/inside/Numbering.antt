-- How items get their numbers, one after the other.
use Rattle.std.specs.Prelude.{ℕ, ◌+◌, List, [], ◌∷◌, ◌++◌, length, slice_get, slice_set, Option, Some, None}
use Rattle.bridge_decl.specs.declared.modules.Module.{Module}
use Rattle.bridge_decl.specs.declared.modules.Item.{Item}
use Rattle.bridge_ast.specs.declared.place.ItemPlace.{ItemPlace}
use Rattle.bridge_order.specs.declared.catalog.Entry.{Entry}
use Rattle.bridge_places.specs.declared.kinds.Kind.{Kind}
use Rattle.bridge_places.specs.declared.kinds.Kind.TheVariants as kind
use Rattle.bridge_places.specs.declared.numbering.ItemOrder.{ItemOrder}
use Rattle.bridge_places.specs.declared.places.KindPlaces.{KindPlaces}
use Rattle.bridge_places.specs.Kinds.{item_kind}
use Rattle.bridge_places.specs.Places.{of_kind}
use Rattle.bridge_places.specs.Entries.{entry_of}

-- no places
abbrev pub no_places : KindPlaces
no_places = record { out_structs = []; structs = []; opaques = []; enums = []; traits = []; functions = [] }

-- one place of a kind more, at the end
abbrev pub with_place : Kind → ItemPlace → KindPlaces → KindPlaces
with_place kind.OutStruct place places = record places { out_structs = places.out_structs ++ place ∷ [] }
with_place kind.Struct place places = record places { structs = places.structs ++ place ∷ [] }
with_place kind.Opaque place places = record places { opaques = places.opaques ++ place ∷ [] }
with_place kind.Enum place places = record places { enums = places.enums ++ place ∷ [] }
with_place kind.Trait place places = record places { traits = places.traits ++ place ∷ [] }
with_place kind.Function place places = record places { functions = places.functions ++ place ∷ [] }

-- the places with those of items of the module of a number, of which the first has the number i there
abbrev pub with_places : ℕ → ℕ → List Item → KindPlaces → KindPlaces
with_places number i [] places = places
with_places number i (it ∷ items) places =
    with_places number (i + 1) items (with_place (item_kind it) (record { «module» = number; item = i }) places)

-- the entries of these items: each gets the number of those of its kind before it
abbrev pub entries_from : ℕ → ℕ → List Item → KindPlaces → List Entry
entries_from number i [] places = []
entries_from number i (it ∷ items) places =
    entry_of (length (of_kind (item_kind it) places)) it
    ∷ entries_from number (i + 1) items (with_place (item_kind it) (record { «module» = number; item = i }) places)

-- with the module of a number, if there is one
abbrev pub with_module : ℕ → Option Module → ItemOrder → ItemOrder
with_module number None found = found
with_module number (Some m) found = record {
  catalog = record { modules = slice_set found.catalog.modules number (entries_from number 0 m.items found.places) };
  places = with_places number 0 m.items found.places;
}

-- with the modules of these numbers
abbrev pub with_modules : List Module → List ℕ → ItemOrder → ItemOrder
with_modules modules [] found = found
with_modules modules (number ∷ order) found = with_modules modules order (with_module number (slice_get modules number) found)
