-- Which definitions there are, and how many lifetimes each has. An id is the place of a definition
-- among those of its kind.
use Rattle.std.specs.Prelude.{ℕ, ◌<◌, Option, Some, None, length, slice_get, if◌then◌else◌, nat_lt}
use Rattle.hir_ids.specs.declared.ids.SymbolId.{SymbolId}
use Rattle.hir_ids.specs.declared.ids.SymbolId.TheVariants as symbol
use Rattle.hir_ids.specs.declared.ids.TypeId.TheVariants as type
use Rattle.hir_fitting.specs.declared.census.Census.{Census}

-- there is a definition of this id: its place is below how many there are of the kind
abbrev pub IsThere : Census → SymbolId → Type 0
IsThere census (symbol.TypeId (type.OutStruct place)) = place < length census.out_structs
IsThere census (symbol.TypeId (type.Struct place)) = place < length census.structs
IsThere census (symbol.TypeId (type.Opaque place)) = place < length census.opaques
IsThere census (symbol.TypeId (type.Enum place)) = place < census.enums
IsThere census (symbol.TraitId place) = place < length census.traits
IsThere census (symbol.FunctionId place) = place < census.functions

-- no lifetimes, where the place is one of so many
abbrev pub none_within : ℕ → ℕ → Option ℕ
none_within count place = if nat_lt place count then Some 0 else None

-- how many lifetimes the definition of this id has, where there is one: enums and functions have none that a path gives
abbrev pub arity_in : Census → SymbolId → Option ℕ
arity_in census (symbol.TypeId (type.OutStruct place)) = slice_get census.out_structs place
arity_in census (symbol.TypeId (type.Struct place)) = slice_get census.structs place
arity_in census (symbol.TypeId (type.Opaque place)) = slice_get census.opaques place
arity_in census (symbol.TypeId (type.Enum place)) = none_within census.enums place
arity_in census (symbol.TraitId place) = slice_get census.traits place
arity_in census (symbol.FunctionId place) = none_within census.functions place
