-- The definitions of a context, and the modules that they stand in.
use Rattle.std.specs.Prelude.{◌≡◌, List, map}
use Rattle.hir_context.specs.declared.parts.ContextParts.{ContextParts}
use Rattle.hir_context.specs.declared.parts.Definitions.{Definitions}
use Rattle.hir_context.specs.declared.parts.Listed.{Listed}
use Rattle.hir_context.specs.declared.parts.Placed.{Placed}

-- the definitions in their order, and the module of each
pub record ListsPlaced {T : Type 0} (placed : List (Placed T)) (it : Listed T) : Type 0 where
  pub defs : it.defs ≡ map (λ p. p.def) placed
  pub modules : it.modules ≡ map (λ p. p.module) placed

-- those of each kind
pub record AreDefinitions (parts : ContextParts) (all : Definitions) : Type 0 where
  pub out_structs : ListsPlaced parts.out_structs all.out_structs
  pub structs : ListsPlaced parts.structs all.structs
  pub opaques : ListsPlaced parts.opaques all.opaques
  pub enums : ListsPlaced parts.enums all.enums
  pub traits : ListsPlaced parts.traits all.traits
  pub functions : ListsPlaced parts.functions all.functions
