-- What is told of the types, the callables and the traits of a context.
use Rattle.std.specs.Prelude.{ℕ, List, [], ◌∷◌, ◌++◌, cond, length, map, Bool, true, false, not, ◌&&◌, nat_lt, Option, Some, None, option_map}
use Rattle.std.specs.List.{enumerate_from, flat_map, list_any}
use Rattle.bridge_leaves.specs.Limits.{has_too_many}
use Rattle.bridge_report.specs.Callables.{Callable}
use Rattle.bridge_report.specs.InContext.{function_callable, type_callable}
use Rattle.bridge_report.specs.declared.report.CallableId.{CallableId}
use Rattle.bridge_report.specs.declared.report.CallableId.TheVariants as callable
use Rattle.bridge_telling.specs.Telling.{one_if}
use Rattle.hir_context.specs.Iterating.{all_types}
use Rattle.hir_context.specs.Lookups.{DefinedType, Struct, OutStruct, Opaque, Enum, module_path_at, type_methods}
use Rattle.hir_context.specs.declared.parts.Definitions.{Definitions}
use Rattle.hir_definitions.specs.declared.definitions.TraitDef.{TraitDef}
use Rattle.hir_definitions.specs.declared.methods.Method.{Method}
use Rattle.hir_ids.specs.declared.ids.SymbolId.{SymbolId}
use Rattle.hir_ids.specs.declared.ids.SymbolId.TheVariants as symbol
use Rattle.hir_ids.specs.declared.ids.TypeId.{TypeId}
use Rattle.hir_life.specs.Environment.{Environment}
use Rattle.hir_life.specs.declared.maybe_static.MaybeStatic.{MaybeStatic}
use Rattle.hir_life.specs.declared.maybe_static.MaybeStatic.TheVariants.{NonStatic, Static}
use Rattle.hir_mentions.specs.Mentions.{where_any}
use Rattle.hir_reports.specs.Store.{at_place, told_at}
use Rattle.hir_reports.specs.Texts.{plain_error}
use Rattle.hir_reports.specs.declared.places.ErrorContext.{ErrorContext}
use Rattle.hir_reports.specs.declared.report.LoweringError.{LoweringError}
use Rattle.hir_reports.specs.declared.report.LoweringReport.{LoweringReport}
use Rattle.hir_reports.specs.declared.rule.Rule.TheVariants as rule
use Rattle.hir_types.specs.declared.callbacks.Callback.{Callback}
use Rattle.hir_validation.specs.Signatures.{signature_errors, lowered_trait_method_errors}
use Rattle.hir_validation.specs.Structs.{type_errors}
use Rattle.hir_validation.specs.Told.{method_rule_errors}

-- ---- lifetimes that a method leaves out

-- a method of a type
abbrev pub is_type_method : CallableId → Bool
is_type_method (callable.Method type number) = true
is_type_method (callable.Function number) = false

-- the lifetime has no name
abbrev pub is_unnamed : Environment → MaybeStatic ℕ → Bool
is_unnamed env Static = false
is_unnamed env (NonStatic l) = not (nat_lt l (length env.bounds))

-- a method that returns one
abbrev pub elides : Callable → Bool
elides c = is_type_method c.id && list_any (is_unnamed c.environment) c.named

-- ---- places

-- the path of the module of a definition
abbrev pub declaring_module : Definitions → SymbolId → List (List ℕ)
declaring_module defs id = where_any (λ path. path) (module_path_at defs id)

abbrev pub lowered_type_name : DefinedType → List ℕ
lowered_type_name (Struct def) = def.name.0
lowered_type_name (OutStruct def) = def.name.0
lowered_type_name (Opaque def) = def.name.0
lowered_type_name (Enum def) = def.name.0

abbrev pub type_place : Definitions → TypeId × DefinedType → ErrorContext
type_place defs entry = at_place (declaring_module defs (symbol.TypeId entry.0)) (lowered_type_name entry.1) None

-- a method of a trait, which has a name
abbrev pub trait_method_place : Definitions → ℕ × TraitDef → Callback → ErrorContext
trait_method_place defs numbered method = at_place (declaring_module defs (symbol.TraitId numbered.0)) numbered.1.name.0 (option_map (λ name. name.0) method.name)

-- ---- callables

-- a method of a type, by its number
abbrev pub lowered_method_callable : Definitions → TypeId × DefinedType → ℕ × Method → Callable
lowered_method_callable defs entry numbered = type_callable defs entry.0 (declaring_module defs (symbol.TypeId entry.0)) (lowered_type_name entry.1) numbered

-- for a backend whose callbacks must be able to fail, or may not
module _ (must_fail : Bool) (defs : Definitions) where
  -- of a callable: of its inputs and its return, and, where it is a method of a type, of what only functions may do
  abbrev pub lowered_callable_errors : Callable → Method → List LoweringError
  lowered_callable_errors c method =
      one_if (has_too_many c) (plain_error rule.TooManyLeaves)
      ++ (one_if (elides c) (plain_error rule.ElidedReturn)
      ++ (signature_errors must_fail defs method ++ cond (is_type_method c.id) (method_rule_errors defs method) []))

  abbrev pub lowered_callable_reports : Callable → Method → List LoweringReport
  lowered_callable_reports c method = map (told_at c.place) (lowered_callable_errors c method)

  -- ---- of each, at its place

  abbrev pub lowered_method_reports : TypeId × DefinedType → ℕ × Method → List LoweringReport
  lowered_method_reports entry numbered = lowered_callable_reports (lowered_method_callable defs entry numbered) numbered.1

  -- of a type, and then of each of its methods
  abbrev pub lowered_type_reports : TypeId × DefinedType → List LoweringReport
  lowered_type_reports entry =
      map (told_at (type_place defs entry)) (type_errors must_fail defs entry.1) ++ flat_map (lowered_method_reports entry) (enumerate_from 0 (type_methods entry.1))

  -- of each method of a trait
  abbrev pub lowered_trait_method_reports : ℕ × TraitDef → Callback → List LoweringReport
  lowered_trait_method_reports numbered method = map (told_at (trait_method_place defs numbered method)) (lowered_trait_method_errors must_fail defs method)

  abbrev pub lowered_trait_reports : ℕ × TraitDef → List LoweringReport
  lowered_trait_reports numbered = flat_map (lowered_trait_method_reports numbered) numbered.1.methods

  -- of a function that isn't disabled
  abbrev pub lowered_function_reports : ℕ × Method → List LoweringReport
  lowered_function_reports numbered = cond numbered.1.attrs.disable [] (lowered_callable_reports (function_callable defs numbered) numbered.1)

  -- of all, in order: types, traits, functions
  abbrev pub context_reports : List LoweringReport
  context_reports =
      flat_map lowered_type_reports (all_types defs)
      ++ (flat_map lowered_trait_reports (enumerate_from 0 defs.traits.defs) ++ flat_map lowered_function_reports (enumerate_from 0 defs.functions.defs))
