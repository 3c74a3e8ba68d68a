-- Where the items of a kind stand, in the order in which modules are gone through. An item's number among those of its kind is
-- its id.
use Rattle.std.specs.Prelude.{ℕ, ◌+◌, List, [], ◌∷◌, ◌++◌, slice_get}
use Rattle.std.specs.List.{flat_map}
use Rattle.bridge_decl.specs.declared.modules.Module.{Module}
use Rattle.bridge_decl.specs.declared.modules.Item.{Item}
use Rattle.bridge_ast.specs.declared.place.ItemPlace.{ItemPlace}
use Rattle.bridge_places.specs.declared.kinds.Kind.{Kind}
use Rattle.bridge_places.specs.declared.kinds.Kind.TheVariants as kind
use Rattle.bridge_places.specs.declared.places.KindPlaces.{KindPlaces}
use Rattle.bridge_places.specs.Kinds.{item_kind, same_kind}
use Rattle.bridge_order.specs.Order.{module_order, of_found, where_there}

-- the places of the items of the kind, where these are items of the module of a number, from the one with the number i on
abbrev pub places_in : Kind → ℕ → ℕ → List Item → List ItemPlace
places_in k number i [] = []
places_in k number i (it ∷ items) =
    where_there (same_kind (item_kind it) k) (record { «module» = number; item = i }) ++ places_in k number (i + 1) items

-- those in the module of a number
abbrev pub module_places : List Module → Kind → ℕ → List ItemPlace
module_places modules k number = of_found (λ m. places_in k number 0 m.items) (slice_get modules number)

-- those in all modules, in order: the first has the id 0
abbrev pub places_of : List Module → Kind → List ItemPlace
places_of modules k = flat_map (module_places modules k) (module_order modules)

-- the places of a kind in lists of places by kinds
abbrev pub of_kind : Kind → KindPlaces → List ItemPlace
of_kind kind.OutStruct places = places.out_structs
of_kind kind.Struct places = places.structs
of_kind kind.Opaque places = places.opaques
of_kind kind.Enum places = places.enums
of_kind kind.Trait places = places.traits
of_kind kind.Function places = places.functions
