-- The callables of declarations: the enabled methods of enabled structs, out-structs, opaques and enums, and then the enabled functions. A type
-- is known by its number among those of its kind, in the order in which modules are gone through.
use Rattle.std.specs.Prelude.{ℕ, List, [], ◌∷◌, ◌++◌, map, Option, Some, None, if◌then◌else◌, is_some}
use Rattle.std.specs.List.{enumerate_from, flat_map, zip}
use Rattle.bridge_ast.specs.declared.place.ItemPlace.{ItemPlace}
use Rattle.bridge_decl.specs.Names.{item_name}
use Rattle.bridge_decl.specs.declared.functions.Function.{Function}
use Rattle.bridge_decl.specs.declared.methods.Method.{Method}
use Rattle.bridge_decl.specs.declared.methods.Param.{Param}
use Rattle.bridge_decl.specs.declared.methods.SelfParam.{SelfParam}
use Rattle.bridge_decl.specs.declared.modules.Item.{Item}
use Rattle.bridge_decl.specs.declared.modules.Item.TheVariants as item
use Rattle.bridge_decl.specs.declared.modules.Module.{Module}
use Rattle.bridge_places.specs.Places.{places_of}
use Rattle.bridge_places.specs.declared.kinds.Kind.{Kind}
use Rattle.bridge_places.specs.declared.kinds.Kind.TheVariants as kind
use Rattle.bridge_report.specs.Callables.{Callable, CallableInput}
use Rattle.bridge_report.specs.InContext.{outline}
use Rattle.bridge_report.specs.declared.report.CallableId.{CallableId}
use Rattle.bridge_report.specs.declared.report.CallableId.TheVariants as callable
use Rattle.hir_ids.specs.declared.ids.TypeId.{TypeId}
use Rattle.hir_ids.specs.declared.ids.TypeId.TheVariants as type
use Rattle.hir_items.specs.Inheriting.{item_marks}
use Rattle.hir_lower.specs.Placing.{path_of_place}
use Rattle.hir_lowering.specs.Interface.{Interface}
use Rattle.hir_lowering.specs.Placing.{found_at}
use Rattle.hir_mentions.specs.Mentions.{where_any}
use Rattle.hir_modules.specs.ModuleMarks.{module_marks}
use Rattle.hir_number.specs.Signatures.{without_writer}
use Rattle.hir_number.specs.declared.signature.NumberedSignature.{NumberedSignature}
use Rattle.hir_readings.specs.Declared.{declared_methods, function_signature, method_signature}
use Rattle.hir_readings.specs.Inputs.{Input, numbered_inputs}
use Rattle.hir_readings.specs.NamedLifetimes.{returned_lifetimes}
use Rattle.hir_readings.specs.Readings.{declared_leaves}
use Rattle.hir_reports.specs.Store.{at_place}
use Rattle.hir_reports.specs.declared.places.ErrorContext.{ErrorContext}
use Rattle.hir_skeleton.specs.NamedLeaves.{NamedLeaf, leaf_named}
use Rattle.bridge_callables.specs.Names.{declared_input_names, declared_path_names}

-- ---- of a numbered signature

-- an input of a name
abbrev pub named_input : {K : Type 0} → List ℕ × Input K → CallableInput
named_input named =
    record { name = named.0; skeleton = outline named.1.skeleton; optional = named.1.optional; slice = named.1.slice }

-- its leaves, with the names along their paths, where its inputs have these names
abbrev pub declared_named_leaves : Interface → List (List ℕ) → NumberedSignature → List NamedLeaf
declared_named_leaves it names n =
    map (leaf_named (declared_path_names it names (map (λ input. input.skeleton) (numbered_inputs it.catalog n)))) (declared_leaves it n)

-- the callable of that id and place, with that receiver and these parameters, where the trailing writer is left out
abbrev pub signature_callable : Interface → CallableId → ErrorContext → Option SelfParam → List Param → NumberedSignature → Callable
signature_callable it id place receiver params n =
    let names = declared_input_names receiver params in
    record {
      id = id;
      place = place;
      receiver = is_some receiver;
      environment = n.lifetimes;
      named = returned_lifetimes it.catalog n.output;
      inputs = map named_input (zip names (numbered_inputs it.catalog n));
      leaves = declared_named_leaves it names n;
    }

-- where lifetimes have numbers: there is one of each declaration that is accepted
abbrev pub numbered_callable : Interface → CallableId → ErrorContext → Option SelfParam → List Param → Option NumberedSignature → List Callable
numbered_callable it id place receiver params signature =
    where_any (λ n. signature_callable it id place receiver params n ∷ []) signature

-- ---- methods

-- the name of the item at a place
abbrev pub declared_name : Interface → ItemPlace → List ℕ
declared_name it place = where_any (λ found. item_name found.1) (found_at it.modules place)

-- a method, by its number, of the type of that id at the place
abbrev pub method_callable : Interface → TypeId → ItemPlace → ℕ × Method → List Callable
method_callable it id place numbered =
    numbered_callable it (callable.Method id numbered.0) (at_place (path_of_place it.modules place) (declared_name it place) (Some numbered.1.name))
    numbered.1.self_param (without_writer numbered.1.params) (method_signature (it.names place.«module») numbered.1)

-- the methods of the type at a place, by its number
abbrev pub type_callables_at : Interface → (ℕ → TypeId) → ℕ × ItemPlace → List Callable
type_callables_at it id numbered = flat_map (method_callable it (id numbered.0) numbered.1) (enumerate_from 0 (declared_methods it numbered.1))

-- those of all types of a kind
abbrev pub kind_callables : Interface → Kind → (ℕ → TypeId) → List Callable
kind_callables it k id = flat_map (type_callables_at it id) (enumerate_from 0 (places_of it.modules k))

-- ---- functions

-- a function, by its number, in that module: one that is disabled is none
abbrev pub function_callable_in : Interface → ℕ → ItemPlace → Module → Function → List Callable
function_callable_in it number place owner declared =
    if (item_marks it.backend (module_marks it.backend it.modules owner) declared.attrs).disable then []
    else numbered_callable it (callable.Function number) (at_place (path_of_place it.modules place) declared.name None)
    None (without_writer declared.params) (function_signature (it.names place.«module») declared)

abbrev pub found_function_callable : Interface → ℕ → ItemPlace → Module × Item → List Callable
found_function_callable it number place (owner, item.Function declared) = function_callable_in it number place owner declared
found_function_callable it number place (owner, item.Struct declared) = []
found_function_callable it number place (owner, item.Opaque declared) = []
found_function_callable it number place (owner, item.Enum declared) = []
found_function_callable it number place (owner, item.Trait declared) = []

-- that at a place
abbrev pub declared_function_callable : Interface → ℕ × ItemPlace → List Callable
declared_function_callable it numbered = where_any (found_function_callable it numbered.0 numbered.1) (found_at it.modules numbered.1)

-- ---- all of them

abbrev pub declared_callables : Interface → List Callable
declared_callables it =
    kind_callables it kind.Struct type.Struct
    ++ kind_callables it kind.OutStruct type.OutStruct
    ++ kind_callables it kind.Opaque type.Opaque
    ++ kind_callables it kind.Enum type.Enum
    ++ flat_map (declared_function_callable it) (enumerate_from 0 (places_of it.modules kind.Function))
