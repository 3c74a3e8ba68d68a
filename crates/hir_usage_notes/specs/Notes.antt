-- Definitions with how they are used by all of an interface.
use Rattle.std.specs.Prelude.{◌≡◌, List, [], ◌∷◌, length}
use Rattle.hir_definitions.specs.declared.definitions.EnumDef.{EnumDef}
use Rattle.hir_definitions.specs.declared.definitions.OpaqueDef.{OpaqueDef}
use Rattle.hir_definitions.specs.declared.definitions.StructDef.{StructDef}
use Rattle.hir_definitions.specs.declared.usage.TypingUseInfo.{TypingUseInfo}
use Rattle.hir_usage.specs.Tables.{Usages, noted, unused_of}
use Rattle.hir_usage_notes.specs.AllUses.{all_usages}
use Rattle.hir_usage_notes.specs.declared.definitions.LoweredDefinitions.{LoweredDefinitions}

-- a definition that is used so
abbrev pub struct_used : {P C O I S T : Type 0} → TypingUseInfo → StructDef P C O I S T → StructDef P C O I S T
struct_used usage def = record def { usage = usage }

abbrev pub opaque_used : TypingUseInfo → OpaqueDef → OpaqueDef
opaque_used usage def = record def { usage = usage }

abbrev pub enum_used : TypingUseInfo → EnumDef → EnumDef
enum_used usage def = record def { usage = usage }

-- each definition with what is known of its use, at the same place
abbrev pub each_used : {D : Type 0} → (TypingUseInfo → D → D) → List TypingUseInfo → List D → List D
each_used note [] defs = defs
each_used note (usage ∷ usages) [] = []
each_used note (usage ∷ usages) (def ∷ defs) = note usage def ∷ each_used note usages defs

-- how the definitions of each kind are used by all of these
abbrev pub usages_among : LoweredDefinitions → Usages
usages_among d =
    noted (all_usages d) (unused_of (length d.structs.items) (length d.out_structs.items) (length d.opaques.items) (length d.enums.items))

-- the same definitions, each with how all of them use it; traits and functions aren't used so
pub record HaveUsages (old new : LoweredDefinitions) : Type 0 where
  pub out_structs : new.out_structs.items ≡ each_used struct_used (usages_among old).out_structs old.out_structs.items
  pub structs : new.structs.items ≡ each_used struct_used (usages_among old).structs old.structs.items
  pub opaques : new.opaques.items ≡ each_used opaque_used (usages_among old).opaques old.opaques.items
  pub enums : new.enums.items ≡ each_used enum_used (usages_among old).enums old.enums.items
  pub traits : new.traits.items ≡ old.traits.items
  pub functions : new.functions.items ≡ old.functions.items
