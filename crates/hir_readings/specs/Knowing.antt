-- The same skeletons, inputs and edges where structs are known otherwise: by their ids in place of their places.
use Rattle.bridge_ast.specs.declared.place.ItemPlace.{ItemPlace}
use Rattle.bridge_order.specs.Catalog.{entry_at}
use Rattle.bridge_order.specs.declared.catalog.Catalog.{Catalog}
use Rattle.bridge_order.specs.declared.catalog.Entry.{Entry}
use Rattle.bridge_order.specs.declared.catalog.Entry.TheVariants as entry
use Rattle.hir_ids.specs.declared.ids.TypeId.{TypeId}
use Rattle.hir_ids.specs.declared.ids.TypeId.TheVariants as type
use Rattle.hir_skeleton.specs.Edges.{ShallowEdge, Whole, Position}
use Rattle.hir_skeleton.specs.Skeletons.{Skeleton, Nothing, Carrier, Struct}

module _ {K L : Type 0} (f : K → L) where
  -- each struct is known by what f makes of that by which it was
  abbrev pub known_as : Skeleton K → Skeleton L
  known_as Nothing = Nothing
  known_as (Carrier lifetimes) = Carrier lifetimes
  known_as (Struct key args) = Struct (f key) args

  abbrev pub edge_known_as : ShallowEdge K → ShallowEdge L
  edge_known_as Whole = Whole
  edge_known_as (Position key d optional) = Position (f key) d optional

-- the id of a type, by its entry: what is no type has none, and counts as an enum, in which nothing is borrowed
abbrev pub type_id_of : Entry → TypeId
type_id_of (entry.Struct id has_fields) = type.Struct id
type_id_of (entry.OutStruct id has_fields) = type.OutStruct id
type_id_of (entry.Opaque id mark) = type.Opaque id
type_id_of (entry.Enum id) = type.Enum id
type_id_of (entry.Trait id) = type.Enum id
type_id_of (entry.Function id) = type.Enum id

-- of what stands at a place
abbrev pub id_there : Catalog → ItemPlace → TypeId
id_there catalog place = type_id_of (entry_at catalog place)
