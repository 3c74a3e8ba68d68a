-- The callables of a context, in the order of its types: structs, out-structs, opaques, enums, and then functions.
use Rattle.std.specs.Prelude.{ℕ, List, [], ◌∷◌, ◌++◌, false, Option, Some, None, cond, codes, map, is_some, option_and_then, option_map, slice_get, slice_index_or}
use Rattle.std.specs.List.{enumerate_from, flat_map}
use Rattle.hir_context.specs.Lookups.{InputStruct, OutputStruct, defined_at, module_path_at, name_at, type_methods}
use Rattle.hir_context.specs.declared.parts.Definitions.{Definitions}
use Rattle.hir_definitions.specs.declared.definitions.EnumDef.{EnumDef}
use Rattle.hir_definitions.specs.declared.definitions.OpaqueDef.{OpaqueDef}
use Rattle.hir_definitions.specs.declared.methods.Method.{Method}
use Rattle.hir_definitions.specs.declared.methods.Param.{Param}
use Rattle.hir_ids.specs.declared.ids.SymbolId.TheVariants as symbol
use Rattle.hir_ids.specs.declared.ids.TypeId.{TypeId}
use Rattle.hir_ids.specs.declared.ids.TypeId.TheVariants as type
use Rattle.hir_mentions.specs.Mentions.{where_any}
use Rattle.hir_reports.specs.Store.{at_place}
use Rattle.hir_reports.specs.declared.places.ErrorContext.{ErrorContext}
use Rattle.hir_skeleton.specs.Inputs.{is_slice_type, param_skeleton}
use Rattle.hir_skeleton.specs.Lowered.{receiver_skeleton}
use Rattle.hir_skeleton.specs.NamedLeaves.{borrowing_leaves}
use Rattle.hir_skeleton.specs.Skeletons.{Skeleton, Nothing, Carrier, Struct}
use Rattle.hir_types.specs.Named.{lifetimes_named}
use Rattle.hir_types.specs.Types.{is_option}
use Rattle.hir_types.specs.declared.self_types.SelfType.{SelfType}
use Rattle.bridge_report.specs.Callables.{Callable, CallableInput}
use Rattle.bridge_report.specs.declared.report.CallableId.{CallableId}
use Rattle.bridge_report.specs.declared.report.CallableId.TheVariants as callable

-- ---- inputs

-- the name of a receiver
abbrev pub receiver_name : List ℕ
receiver_name = codes "this"

-- the same, whichever struct it is
abbrev pub outline : {K : Type 0} → Skeleton K → Skeleton (Unit {0})
outline Nothing = Nothing
outline (Carrier lifetimes) = Carrier lifetimes
outline (Struct key args) = Struct tt args

abbrev pub receiver_input : SelfType → CallableInput
receiver_input ty = record { name = receiver_name; skeleton = outline (receiver_skeleton ty); optional = false; slice = false }

abbrev pub param_input : Param → CallableInput
param_input p =
    record { name = p.name; skeleton = outline (param_skeleton p.ty); optional = is_option p.ty; slice = is_slice_type p.ty }

abbrev pub callable_inputs : Method → List CallableInput
callable_inputs m = where_any (λ receiver. receiver_input receiver.ty ∷ []) m.param_self ++ map param_input m.params

-- ---- callables

abbrev pub callable_of : Definitions → CallableId → ErrorContext → Method → Callable
callable_of defs id place m = record {
  id = id;
  place = place;
  receiver = is_some m.param_self;
  environment = m.lifetime_env;
  named = lifetimes_named m.output;
  inputs = callable_inputs m;
  leaves = borrowing_leaves defs receiver_name m;
}

-- a method, by its number, of the type of that id and name in the module of that path
abbrev pub type_callable : Definitions → TypeId → List (List ℕ) → List ℕ → ℕ × Method → Callable
type_callable defs id path name numbered =
    callable_of defs (callable.Method id numbered.0) (at_place path name (Some numbered.1.name.0)) numbered.1

abbrev pub type_callables : Definitions → TypeId → List (List ℕ) → List ℕ → List Method → List Callable
type_callables defs id path name methods = map (type_callable defs id path name) (enumerate_from 0 methods)

-- those of the types of each kind, by their numbers
abbrev pub struct_callables : Definitions → ℕ × InputStruct → List Callable
struct_callables defs numbered =
    type_callables defs (type.Struct numbered.0) (slice_index_or defs.structs.modules numbered.0 []) numbered.1.name.0 numbered.1.methods

abbrev pub out_struct_callables : Definitions → ℕ × OutputStruct → List Callable
out_struct_callables defs numbered =
    type_callables defs (type.OutStruct numbered.0) (slice_index_or defs.out_structs.modules numbered.0 []) numbered.1.name.0 numbered.1.methods

abbrev pub opaque_callables : Definitions → ℕ × OpaqueDef → List Callable
opaque_callables defs numbered =
    type_callables defs (type.Opaque numbered.0) (slice_index_or defs.opaques.modules numbered.0 []) numbered.1.name.0 numbered.1.methods

abbrev pub enum_callables : Definitions → ℕ × EnumDef → List Callable
enum_callables defs numbered =
    type_callables defs (type.Enum numbered.0) (slice_index_or defs.enums.modules numbered.0 []) numbered.1.name.0 numbered.1.methods

-- a function, by its number: one that is disabled is none
abbrev pub function_callable : Definitions → ℕ × Method → Callable
function_callable defs numbered =
    callable_of defs (callable.Function numbered.0) (at_place (slice_index_or defs.functions.modules numbered.0 []) numbered.1.name.0 None) numbered.1

abbrev pub function_callables : Definitions → ℕ × Method → List Callable
function_callables defs numbered = cond numbered.1.attrs.disable [] (function_callable defs numbered ∷ [])

-- all of them
abbrev pub callables : Definitions → List Callable
callables defs =
    flat_map (struct_callables defs) (enumerate_from 0 defs.structs.defs)
    ++ flat_map (out_struct_callables defs) (enumerate_from 0 defs.out_structs.defs)
    ++ flat_map (opaque_callables defs) (enumerate_from 0 defs.opaques.defs)
    ++ flat_map (enum_callables defs) (enumerate_from 0 defs.enums.defs)
    ++ flat_map (function_callables defs) (enumerate_from 0 defs.functions.defs)

-- ---- by their ids

-- the method or the function of an id, where there is one
abbrev pub method_at : Definitions → CallableId → Option Method
method_at defs (callable.Method id number) = option_and_then (λ def. slice_get (type_methods def) number) (defined_at defs id)
method_at defs (callable.Function number) = slice_get defs.functions.defs number

-- the callable of an id, where there is one
abbrev pub callable_at : Definitions → CallableId → Option Callable
callable_at defs (callable.Method id number) =
    option_map (λ m. type_callable defs id (where_any (λ path. path) (module_path_at defs (symbol.TypeId id)))
    (where_any (λ name. name) (name_at defs (symbol.TypeId id))) (number, m)) (method_at defs (callable.Method id number))
callable_at defs (callable.Function number) =
    option_and_then (λ m. cond m.attrs.disable None (Some (function_callable defs (number, m)))) (slice_get defs.functions.defs number)
