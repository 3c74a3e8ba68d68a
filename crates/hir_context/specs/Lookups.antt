-- What stands in a context.
use Rattle.std.specs.Prelude.{◌<◌, ℕ, List, Option, None, length, option_map, slice_get}
use Rattle.hir_life.specs.Environment.{Environment}
use Rattle.hir_ids.specs.declared.ids.SymbolId.{SymbolId}
use Rattle.hir_ids.specs.declared.ids.SymbolId.TheVariants as symbol
use Rattle.hir_ids.specs.declared.ids.TypeId.{TypeId}
use Rattle.hir_ids.specs.declared.ids.TypeId.TheVariants as type
use Rattle.hir_ids.specs.declared.owners.Borrow.{Borrow}
use Rattle.hir_ids.specs.declared.owners.MaybeOwn.{MaybeOwn}
use Rattle.hir_types.specs.declared.callbacks.NoCallback.{NoCallback}
use Rattle.hir_types.specs.declared.paths.NoTraitPath.{NoTraitPath}
use Rattle.hir_types.specs.declared.paths.ReturnableStructPath.{ReturnableStructPath}
use Rattle.hir_types.specs.declared.paths.StructPath.{StructPath}
use Rattle.hir_types.specs.declared.positions.Everywhere.{Everywhere}
use Rattle.hir_types.specs.declared.positions.OutputOnly.{OutputOnly}
use Rattle.hir_definitions.specs.declared.definitions.EnumDef.{EnumDef}
use Rattle.hir_definitions.specs.declared.definitions.OpaqueDef.{OpaqueDef}
use Rattle.hir_definitions.specs.declared.definitions.StructDef.{StructDef}
use Rattle.hir_definitions.specs.declared.methods.Method.{Method}
use Rattle.hir_definitions.specs.declared.type_defs.TypeDef.{TypeDef}
use Rattle.hir_definitions.specs.declared.type_defs.TypeDef.TheVariants as lent
use Rattle.hir_context.specs.declared.parts.Definitions.{Definitions}

-- a struct that may stand in inputs, and one that only goes out
abbrev pub InputStruct : Type 0
InputStruct = StructDef Everywhere NoCallback Borrow ℕ StructPath NoTraitPath

abbrev pub OutputStruct : Type 0
OutputStruct = StructDef OutputOnly NoCallback MaybeOwn ℕ ReturnableStructPath NoTraitPath

-- the definition of a type
pub data DefinedType : Type 0 where
  Struct : InputStruct → DefinedType
  OutStruct : OutputStruct → DefinedType
  Opaque : OpaqueDef → DefinedType
  Enum : EnumDef → DefinedType

-- its methods, in order
abbrev pub type_methods : DefinedType → List Method
type_methods (Struct def) = def.methods
type_methods (OutStruct def) = def.methods
type_methods (Opaque def) = def.methods
type_methods (Enum def) = def.methods

-- that which is lent
abbrev pub lent_type : TypeDef → DefinedType
lent_type (lent.Struct def) = Struct def.now
lent_type (lent.OutStruct def) = OutStruct def.now
lent_type (lent.Opaque def) = Opaque def.now
lent_type (lent.Enum def) = Enum def.now

-- there is a definition of this id: its place is below how many there are of its kind
abbrev pub IsIn : Definitions → SymbolId → Type 0
IsIn defs (symbol.TypeId (type.OutStruct place)) = place < length defs.out_structs.defs
IsIn defs (symbol.TypeId (type.Struct place)) = place < length defs.structs.defs
IsIn defs (symbol.TypeId (type.Opaque place)) = place < length defs.opaques.defs
IsIn defs (symbol.TypeId (type.Enum place)) = place < length defs.enums.defs
IsIn defs (symbol.TraitId place) = place < length defs.traits.defs
IsIn defs (symbol.FunctionId place) = place < length defs.functions.defs

-- the type of this id, where there is one
abbrev pub defined_at : Definitions → TypeId → Option DefinedType
defined_at defs (type.OutStruct place) = option_map OutStruct (slice_get defs.out_structs.defs place)
defined_at defs (type.Struct place) = option_map Struct (slice_get defs.structs.defs place)
defined_at defs (type.Opaque place) = option_map Opaque (slice_get defs.opaques.defs place)
defined_at defs (type.Enum place) = option_map Enum (slice_get defs.enums.defs place)

-- its lifetimes: an enum has no environment
abbrev pub environment_at : Definitions → TypeId → Option Environment
environment_at defs (type.OutStruct place) = option_map (λ def. def.lifetimes) (slice_get defs.out_structs.defs place)
environment_at defs (type.Struct place) = option_map (λ def. def.lifetimes) (slice_get defs.structs.defs place)
environment_at defs (type.Opaque place) = option_map (λ def. def.lifetimes) (slice_get defs.opaques.defs place)
environment_at defs (type.Enum place) = None

-- the path of the module of the definition of this id, where there is one
abbrev pub module_path_at : Definitions → SymbolId → Option (List (List ℕ))
module_path_at defs (symbol.TypeId (type.OutStruct place)) = slice_get defs.out_structs.modules place
module_path_at defs (symbol.TypeId (type.Struct place)) = slice_get defs.structs.modules place
module_path_at defs (symbol.TypeId (type.Opaque place)) = slice_get defs.opaques.modules place
module_path_at defs (symbol.TypeId (type.Enum place)) = slice_get defs.enums.modules place
module_path_at defs (symbol.TraitId place) = slice_get defs.traits.modules place
module_path_at defs (symbol.FunctionId place) = slice_get defs.functions.modules place

-- its name
abbrev pub name_at : Definitions → SymbolId → Option (List ℕ)
name_at defs (symbol.TypeId (type.OutStruct place)) = option_map (λ def. def.name.0) (slice_get defs.out_structs.defs place)
name_at defs (symbol.TypeId (type.Struct place)) = option_map (λ def. def.name.0) (slice_get defs.structs.defs place)
name_at defs (symbol.TypeId (type.Opaque place)) = option_map (λ def. def.name.0) (slice_get defs.opaques.defs place)
name_at defs (symbol.TypeId (type.Enum place)) = option_map (λ def. def.name.0) (slice_get defs.enums.defs place)
name_at defs (symbol.TraitId place) = option_map (λ def. def.name.0) (slice_get defs.traits.defs place)
name_at defs (symbol.FunctionId place) = option_map (λ def. def.name.0) (slice_get defs.functions.defs place)
