-- How types and returns use definitions at each position, and how callbacks and methods do.
use Rattle.std.specs.Prelude.{ℕ, List, [], ◌++◌, Some}
use Rattle.std.specs.List.{flat_map}
use Rattle.hir_ids.specs.Owners.{lent}
use Rattle.hir_ids.specs.declared.ids.TypeId.{TypeId}
use Rattle.hir_ids.specs.declared.ids.TypeId.TheVariants as type
use Rattle.hir_ids.specs.declared.owners.Borrow.{Borrow as Loan}
use Rattle.hir_ids.specs.declared.owners.InputOrOutput.TheVariants.{Input, Output}
use Rattle.hir_types.specs.Named.{Returned, ReturnedType}
use Rattle.hir_types.specs.Paths.{returnable_id}
use Rattle.hir_types.specs.declared.callbacks.Callback.{Callback}
use Rattle.hir_types.specs.declared.callbacks.NoCallback.{NoCallback}
use Rattle.hir_types.specs.declared.paths.StructPath.{StructPath}
use Rattle.hir_types.specs.declared.paths.TraitPath.{TraitPath}
use Rattle.hir_types.specs.declared.positions.CallbackReturn.{CallbackReturn}
use Rattle.hir_types.specs.declared.returns.ReturnType.{ReturnType}
use Rattle.hir_definitions.specs.declared.methods.Method.{Method}
use Rattle.hir_definitions.specs.declared.usage.ResultUsage.TheVariants as usage
use Rattle.hir_mentions.specs.Callbacks.{CallbackReturnType, InputType}
use Rattle.hir_usage.specs.Returns.{return_usages}
use Rattle.hir_usage.specs.Types.{optioned_usages, type_usages}
use Rattle.hir_usage.specs.Uses.{Used}

-- the struct that a path names that may stand in inputs
abbrev pub struct_id : StructPath → TypeId
struct_id path = type.Struct path.tcx_id

-- a type of what methods return and of what callbacks take
abbrev pub output_usages : ReturnedType → List Used
output_usages = type_usages Output lent returnable_id (λ _. [])

-- the same, directly in an option
abbrev pub optioned_output_usages : ReturnedType → List Used
optioned_output_usages = optioned_usages Output lent returnable_id (λ _. [])

-- what a method or a function returns: its result goes out
abbrev pub output_return_usages : Returned → List Used
output_return_usages =
    return_usages output_usages optioned_output_usages returnable_id (λ s e. usage.Output (record { ok = s; err = e }))

-- a type of what callbacks return
abbrev pub callback_type_usages : CallbackReturnType → List Used
callback_type_usages = type_usages Input Some struct_id (λ _. [])

-- the same, directly in an option
abbrev pub optioned_callback_type_usages : CallbackReturnType → List Used
optioned_callback_type_usages = optioned_usages Input Some struct_id (λ _. [])

-- what a callback or a method of a trait returns: its result comes in
abbrev pub callback_return_usages : ReturnType CallbackReturn NoCallback Loan ℕ StructPath TraitPath → List Used
callback_return_usages =
    return_usages callback_type_usages optioned_callback_type_usages struct_id (λ s e. usage.Input (record { ok = s; err = e }))

-- a callback, or a method of a trait: what it takes, and what it returns
abbrev pub callback_usages : Callback → List Used
callback_usages c = flat_map (λ p. output_usages p.ty) c.params ++ callback_return_usages c.output

-- a type of what methods take
abbrev pub input_usages : InputType → List Used
input_usages = type_usages Input Some struct_id callback_usages

-- a method or a function: what it takes besides its receiver, and what it returns
abbrev pub method_usages : Method → List Used
method_usages m = flat_map (λ p. input_usages p.ty) m.params ++ output_return_usages m.output
