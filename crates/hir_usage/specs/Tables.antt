-- How each definition is used, as uses are noted one after the other.
use Rattle.std.specs.Prelude.{ℕ, List, [], ◌∷◌, ◌++◌, Option, Some, None, true, option_map, replicate, slice_get, slice_set}
use Rattle.hir_ids.specs.declared.ids.TypeId.{TypeId}
use Rattle.hir_ids.specs.declared.ids.TypeId.TheVariants as type
use Rattle.hir_definitions.specs.Usage.{unused}
use Rattle.hir_definitions.specs.declared.usage.TypingUseInfo.{TypingUseInfo}
use Rattle.hir_usage.specs.Uses.{Used, Sliced, Optioned, InResult, used_id}
use Rattle.hir_usage.specs.declared.tables.UseTable.{UseTable}

-- how a definition is used, with one use more
abbrev pub with_use : Used → TypingUseInfo → TypingUseInfo
with_use (Sliced id) info = record info { sliced = true }
with_use (Optioned id) info = record info { optioned = true }
with_use (InResult id result) info = record info { results = info.results ++ result ∷ [] }

-- a list with this at the place, where there is anything to put there
abbrev pub put_at : ℕ → List TypingUseInfo → Option TypingUseInfo → List TypingUseInfo
put_at place infos None = infos
put_at place infos (Some info) = slice_set infos place info

-- how definitions are used, with one use more of the one at this place, where there is one
abbrev pub with_use_at : ℕ → Used → List TypingUseInfo → List TypingUseInfo
with_use_at place u infos = put_at place infos (option_map (with_use u) (slice_get infos place))

-- how the definitions of each kind are used
pub record Usages : Type 0 where
  pub structs : List TypingUseInfo
  pub out_structs : List TypingUseInfo
  pub opaques : List TypingUseInfo
  pub enums : List TypingUseInfo

-- as a table has it
abbrev pub usages : UseTable → Usages
usages t =
    record { structs = t.structs.items; out_structs = t.out_structs.items; opaques = t.opaques.items; enums = t.enums.items }

-- so many definitions of each kind, each used by itself alone
abbrev pub unused_of : ℕ → ℕ → ℕ → ℕ → Usages
unused_of structs out_structs opaques enums =
    record { structs = replicate structs unused; out_structs = replicate out_structs unused; opaques = replicate opaques unused; enums = replicate enums unused }

-- the use noted at the definition with this id
abbrev pub noted_at : TypeId → Used → Usages → Usages
noted_at (type.Struct place) u t = record t { structs = with_use_at place u t.structs }
noted_at (type.OutStruct place) u t = record t { out_structs = with_use_at place u t.out_structs }
noted_at (type.Opaque place) u t = record t { opaques = with_use_at place u t.opaques }
noted_at (type.Enum place) u t = record t { enums = with_use_at place u t.enums }

-- each use noted at its own definition, in order
abbrev pub noted : List Used → Usages → Usages
noted [] t = t
noted (u ∷ us) t = noted us (noted_at (used_id u) u t)
