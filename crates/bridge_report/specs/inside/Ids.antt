-- The ids of callables, as they are gathered.
use Rattle.std.specs.Prelude.{ℕ, List, [], ◌∷◌, ◌++◌, cond, map, Option, Some, None}
use Rattle.std.specs.List.{enumerate_from, flat_map}
use Rattle.hir_context.specs.Iterating.{all_types}
use Rattle.hir_context.specs.Lookups.{DefinedType, type_methods}
use Rattle.hir_context.specs.declared.parts.Definitions.{Definitions}
use Rattle.hir_definitions.specs.declared.methods.Method.{Method}
use Rattle.hir_ids.specs.declared.ids.TypeId.{TypeId}
use Rattle.bridge_report.specs.declared.report.CallableId.{CallableId}
use Rattle.bridge_report.specs.declared.report.CallableId.TheVariants as callable

-- the id of the method of a number of a type, or of the function of that number
abbrev pub numbered_id : Option TypeId → ℕ → CallableId
numbered_id (Some id) number = callable.Method id number
numbered_id None number = callable.Function number

-- those of the methods of a type, of which the first has the number n there
abbrev pub method_ids : TypeId → ℕ → List Method → List CallableId
method_ids id n methods = map (λ numbered. callable.Method id numbered.0) (enumerate_from n methods)

-- those of a type
abbrev pub type_ids : TypeId × DefinedType → List CallableId
type_ids entry = method_ids entry.0 0 (type_methods entry.1)

-- that of a function, where it is enabled
abbrev pub function_ids : ℕ × Method → List CallableId
function_ids numbered = cond numbered.1.attrs.disable [] (callable.Function numbered.0 ∷ [])

-- those of all types, and then of all functions
abbrev pub ids_of : Definitions → List CallableId
ids_of defs = flat_map type_ids (all_types defs) ++ flat_map function_ids (enumerate_from 0 defs.functions.defs)
