-- All definitions of a context, each with its id.
use Rattle.std.specs.Prelude.{ℕ, List, ◌++◌, map}
use Rattle.std.specs.List.{enumerate_from}
use Rattle.hir_ids.specs.declared.ids.TypeId.{TypeId}
use Rattle.hir_ids.specs.declared.ids.TypeId.TheVariants as type
use Rattle.hir_definitions.specs.declared.definitions.EnumDef.{EnumDef}
use Rattle.hir_definitions.specs.declared.definitions.OpaqueDef.{OpaqueDef}
use Rattle.hir_definitions.specs.declared.definitions.TraitDef.{TraitDef}
use Rattle.hir_definitions.specs.declared.methods.Method.{Method}
use Rattle.hir_context.specs.Lookups.{DefinedType, Struct, OutStruct, Opaque, Enum, OutputStruct, InputStruct}
use Rattle.hir_context.specs.declared.iterating.AllFunctions.{AllFunctions}
use Rattle.hir_context.specs.declared.iterating.AllTraits.{AllTraits}
use Rattle.hir_context.specs.declared.iterating.AllTypes.{AllTypes}
use Rattle.hir_context.specs.declared.iterating.Numbered.{Numbered}
use Rattle.hir_context.specs.declared.parts.Definitions.{Definitions}

-- a definition of each kind, which has this number there
abbrev pub struct_entry : ℕ × InputStruct → TypeId × DefinedType
struct_entry numbered = (type.Struct numbered.0, Struct numbered.1)

abbrev pub out_struct_entry : ℕ × OutputStruct → TypeId × DefinedType
out_struct_entry numbered = (type.OutStruct numbered.0, OutStruct numbered.1)

abbrev pub opaque_entry : ℕ × OpaqueDef → TypeId × DefinedType
opaque_entry numbered = (type.Opaque numbered.0, Opaque numbered.1)

abbrev pub enum_entry : ℕ × EnumDef → TypeId × DefinedType
enum_entry numbered = (type.Enum numbered.0, Enum numbered.1)

-- one kind after another
abbrev pub type_entries : List (ℕ × InputStruct) → List (ℕ × OutputStruct) → List (ℕ × OpaqueDef) → List (ℕ × EnumDef) → List (TypeId × DefinedType)
type_entries structs out_structs opaques enums =
    map struct_entry structs ++ (map out_struct_entry out_structs ++ (map opaque_entry opaques ++ map enum_entry enums))

-- all types: structs, structs that only go out, opaques, enums, each kind in its order
abbrev pub all_types : Definitions → List (TypeId × DefinedType)
all_types defs = type_entries (enumerate_from 0 defs.structs.defs) (enumerate_from 0 defs.out_structs.defs)
    (enumerate_from 0 defs.opaques.defs) (enumerate_from 0 defs.enums.defs)

-- what an iterator still gives: definitions of one kind with their places
abbrev pub numbered_left : {D : Type 0} → Numbered D → List (ℕ × D)
numbered_left it = enumerate_from it.next it.rest.now

-- types with their ids
abbrev pub types_left : AllTypes → List (TypeId × DefinedType)
types_left it = type_entries (numbered_left it.structs) (numbered_left it.out_structs) (numbered_left it.opaques) (numbered_left it.enums)

-- traits with theirs, and functions
abbrev pub traits_left : AllTraits → List (ℕ × TraitDef)
traits_left it = numbered_left it.traits

abbrev pub functions_left : AllFunctions → List (ℕ × Method)
functions_left it = numbered_left it.functions
