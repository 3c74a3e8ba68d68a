-- The definitions of an interface while they are made.
use Rattle.std.specs.Prelude.{◌≡◌, []}
use Rattle.hir_usage_notes.specs.declared.definitions.LoweredDefinitions.{LoweredDefinitions}

-- there are none
pub record HasNone (d : LoweredDefinitions) : Type 0 where
  pub out_structs : d.out_structs.items ≡ []
  pub structs : d.structs.items ≡ []
  pub opaques : d.opaques.items ≡ []
  pub enums : d.enums.items ≡ []
  pub traits : d.traits.items ≡ []
  pub functions : d.functions.items ≡ []
