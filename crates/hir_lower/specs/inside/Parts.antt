-- Definitions with the paths of their modules, as the parts of a context.
use Rattle.std.specs.Prelude.{◌≡◌, ℕ, List, map, slice_get}
use Rattle.std.specs.List.{enumerate_from}
use Rattle.bridge_ast.specs.declared.place.ItemPlace.{ItemPlace}
use Rattle.bridge_decl.specs.declared.modules.Module.{Module}
use Rattle.bridge_places.specs.Places.{places_of}
use Rattle.bridge_places.specs.declared.kinds.Kind.TheVariants as kind
use Rattle.hir_context.specs.declared.parts.ContextParts.{ContextParts}
use Rattle.hir_context.specs.declared.parts.Placed.{Placed}
use Rattle.hir_mentions.specs.Mentions.{where_any}
use Rattle.hir_usage_notes.specs.declared.definitions.LoweredDefinitions.{LoweredDefinitions}
use Rattle.hir_lower.specs.Placing.{path_of_place}

-- the path of the module of the place of a number
abbrev pub path_of_number : List Module → List ItemPlace → ℕ → List (List ℕ)
path_of_number modules places number = where_any (path_of_place modules) (slice_get places number)

-- these definitions, each with the path of the module of the place of its number
pub record StandAtPlaces {D : Type 0} (modules : List Module) (places : List ItemPlace) (list : List D) (placed : List (Placed D)) : Type 0 where
  pub defs : map (λ p. p.def) placed ≡ list
  pub paths : map (λ p. p.«module») placed ≡ map (λ n. path_of_number modules places n.0) (enumerate_from 0 list)

-- so of each kind, where the items of a kind stand in order
pub record AreParts (modules : List Module) (d : LoweredDefinitions) (parts : ContextParts) : Type 0 where
  pub out_structs : StandAtPlaces modules (places_of modules kind.OutStruct) d.out_structs.items parts.out_structs
  pub structs : StandAtPlaces modules (places_of modules kind.Struct) d.structs.items parts.structs
  pub opaques : StandAtPlaces modules (places_of modules kind.Opaque) d.opaques.items parts.opaques
  pub enums : StandAtPlaces modules (places_of modules kind.Enum) d.enums.items parts.enums
  pub traits : StandAtPlaces modules (places_of modules kind.Trait) d.traits.items parts.traits
  pub functions : StandAtPlaces modules (places_of modules kind.Function) d.functions.items parts.functions
