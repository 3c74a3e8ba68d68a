-- The context of declarations: the definitions of all their items, each with how it is used and with the path of its module.
use Rattle.std.specs.Prelude.{◌≡◌, List, map}
use Rattle.bridge_ast.specs.declared.place.ItemPlace.{ItemPlace}
use Rattle.bridge_decl.specs.declared.modules.Module.{Module}
use Rattle.bridge_places.specs.Places.{places_of}
use Rattle.bridge_places.specs.declared.kinds.Kind.TheVariants as kind
use Rattle.hir_context.specs.declared.parts.Definitions.{Definitions}
use Rattle.hir_context.specs.declared.parts.Listed.{Listed}
use Rattle.hir_usage_notes.specs.Notes.{HaveUsages}
use Rattle.hir_usage_notes.specs.declared.definitions.LoweredDefinitions.{LoweredDefinitions}
use Rattle.hir_lowering.specs.Interface.{Interface}
use Rattle.hir_lower.specs.Acceptance.{AreAccepted}
use Rattle.hir_lower.specs.Placing.{path_of_place}

-- these definitions, each with the path of the module of its item
pub record ListsItems {D : Type 0} (modules : List Module) (places : List ItemPlace) (list : List D) (listed : Listed D) : Type 0 where
  pub definitions : listed.defs ≡ list
  pub paths : listed.modules ≡ map (path_of_place modules) places

-- so of each kind
pub record ListsAllItems (modules : List Module) (d : LoweredDefinitions) (defs : Definitions) : Type 0 where
  pub out_structs : ListsItems modules (places_of modules kind.OutStruct) d.out_structs.items defs.out_structs
  pub structs : ListsItems modules (places_of modules kind.Struct) d.structs.items defs.structs
  pub opaques : ListsItems modules (places_of modules kind.Opaque) d.opaques.items defs.opaques
  pub enums : ListsItems modules (places_of modules kind.Enum) d.enums.items defs.enums
  pub traits : ListsItems modules (places_of modules kind.Trait) d.traits.items defs.traits
  pub functions : ListsItems modules (places_of modules kind.Function) d.functions.items defs.functions

-- the definitions of a context are those of all items of declarations in which nothing is wrong, with how all of them use each
pub record StandForItems (it : Interface) (defs : Definitions) : Type 0 where
  pub lowered : LoweredDefinitions
  pub accepted : AreAccepted it lowered
  pub used : LoweredDefinitions
  pub noted : HaveUsages lowered used
  pub listed : ListsAllItems it.modules used defs
