-- The ids of the structs that types hold, as a catalog has them.
use Rattle.std.proofs.Common.{List, [], ◌∷◌, Option, Some, None}
use Rattle.bridge_ast.specs.declared.place.ItemPlace.{ItemPlace}
use Rattle.bridge_order.specs.Catalog.{entry_at}
use Rattle.bridge_order.specs.declared.catalog.Catalog.{Catalog}
use Rattle.bridge_order.specs.declared.catalog.Entry.{Entry}
use Rattle.bridge_order.specs.declared.catalog.Entry.TheVariants as entry
use Rattle.hir_ids.specs.declared.ids.TypeId.{TypeId}
use Rattle.hir_ids.specs.declared.ids.TypeId.TheVariants as type
use Rattle.hir_number.specs.Naming.{Definition}
use Rattle.hir_number.specs.declared.numbered.Kind.{Kind}
use Rattle.hir_number.specs.declared.numbered.NumberedType.{NumberedType, fold-NumberedType}
use Rattle.hir_number.specs.declared.numbered.NumberedType.TheOpen.{NumberedType-F}

-- the id of a struct, where an item is one
abbrev pub entry_ids : Entry → List TypeId
entry_ids (entry.Struct id b) = type.Struct id ∷ []
entry_ids (entry.OutStruct id b) = type.OutStruct id ∷ []
entry_ids (entry.Opaque id mark) = []
entry_ids (entry.Enum id) = []
entry_ids (entry.Trait id) = []
entry_ids (entry.Function id) = []

-- the same, where it is known to be one
abbrev pub entry_id : Entry → TypeId
entry_id (entry.Struct id b) = type.Struct id
entry_id (entry.OutStruct id b) = type.OutStruct id
entry_id (entry.Opaque id mark) = type.Opaque id
entry_id (entry.Enum id) = type.Enum id
entry_id (entry.Trait id) = type.Enum id
entry_id (entry.Function id) = type.Enum id

-- of the struct at a place
abbrev pub id_at : Catalog → ItemPlace → TypeId
id_at catalog place = entry_id (entry_at catalog place)

-- of what a path leads to
abbrev pub found_ids : Catalog → Option (Definition × Kind) → List TypeId
found_ids catalog None = []
found_ids catalog (Some found) = entry_ids (entry_at catalog found.0.place)

-- of those that a numbered type holds
abbrev pub level_ids : Catalog → NumberedType-F (List TypeId) → List TypeId
level_ids catalog (NumberedType-F.Named t) = entry_ids (entry_at catalog t.place)
level_ids catalog (NumberedType-F.SelfType t) = entry_ids (entry_at catalog t.place)
level_ids catalog (NumberedType-F.Reference l m t) = t
level_ids catalog (NumberedType-F.Option t d) = t
level_ids catalog _ = []

abbrev pub ids_held : Catalog → NumberedType → List TypeId
ids_held catalog = fold-NumberedType (List TypeId) (level_ids catalog)
