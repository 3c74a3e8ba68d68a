-- Definitions that stand for those that modules declare, as far as fitting asks: as many of each kind, with as many lifetimes, and
-- each fits.
use Rattle.std.specs.Prelude.{◌≡◌, length, map, List}
use Rattle.std.specs.List.{All}
use Rattle.bridge_decl.specs.declared.modules.Module.{Module}
use Rattle.bridge_places.specs.Places.{places_of}
use Rattle.bridge_places.specs.declared.kinds.Kind.TheVariants as kind
use Rattle.hir_context.specs.declared.parts.Definitions.{Definitions}
use Rattle.hir_fitting.specs.Parts.{DefinitionFits, parts_of_enum, parts_of_function, parts_of_opaque, parts_of_struct, parts_of_trait}
use Rattle.hir_fitting.specs.declared.census.Census.{Census}
use Rattle.hir_mentions.specs.Callbacks.{field_mentions, output_mentions}
use Rattle.hir_fitting_forms.specs.DeclaredCensus.{lifetimes_of_kind}

-- they are those that the modules declare, in number and in lifetimes
pub record HaveDeclared (modules : List Module) (defs : Definitions) : Type 0 where
  pub out_structs : map (λ def. def.lifetimes.count) defs.out_structs.defs ≡ lifetimes_of_kind modules kind.OutStruct
  pub structs : map (λ def. def.lifetimes.count) defs.structs.defs ≡ lifetimes_of_kind modules kind.Struct
  pub opaques : map (λ def. def.lifetimes.count) defs.opaques.defs ≡ lifetimes_of_kind modules kind.Opaque
  pub traits : map (λ def. def.lifetimes.count) defs.traits.defs ≡ lifetimes_of_kind modules kind.Trait
  pub enums : length defs.enums.defs ≡ length (places_of modules kind.Enum)
  pub functions : length defs.functions.defs ≡ length (places_of modules kind.Function)

-- each definition of each kind fits
pub record EachFits (census : Census) (defs : Definitions) : Type 0 where
  pub out_structs : All (λ def. DefinitionFits census (parts_of_struct output_mentions def)) defs.out_structs.defs
  pub structs : All (λ def. DefinitionFits census (parts_of_struct field_mentions def)) defs.structs.defs
  pub opaques : All (λ def. DefinitionFits census (parts_of_opaque def)) defs.opaques.defs
  pub enums : All (λ def. DefinitionFits census (parts_of_enum def)) defs.enums.defs
  pub traits : All (λ def. DefinitionFits census (parts_of_trait def)) defs.traits.defs
  pub functions : All (λ def. DefinitionFits census (parts_of_function def)) defs.functions.defs
