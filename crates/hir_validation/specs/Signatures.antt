-- What is told of the types that a method or a function takes and returns, of a receiver, and of a method of a trait.
use Rattle.std.specs.Prelude.{List, [], ◌++◌, Bool, Option, option_to_list, slice_get}
use Rattle.std.specs.List.{flat_map}
use Rattle.hir_context.specs.Lookups as defined
use Rattle.hir_context.specs.declared.parts.Definitions.{Definitions}
use Rattle.hir_definitions.specs.declared.methods.Method.{Method}
use Rattle.hir_definitions.specs.declared.methods.Param.{Param}
use Rattle.hir_definitions.specs.declared.methods.ParamSelf.{ParamSelf}
use Rattle.hir_mentions.specs.Mentions.{where_any}
use Rattle.hir_reports.specs.declared.report.LoweringError.{LoweringError}
use Rattle.hir_types.specs.Named.{ReturnedType}
use Rattle.hir_types.specs.Returns.{error_of, success_of, type_in}
use Rattle.hir_types.specs.declared.callbacks.Callback.{Callback as HeldCallback}
use Rattle.hir_types.specs.declared.callbacks.CallbackParam.{CallbackParam}
use Rattle.hir_types.specs.declared.paths.StructPath.{StructPath}
use Rattle.hir_types.specs.declared.returns.ReturnType.{ReturnType}
use Rattle.hir_types.specs.declared.self_types.SelfType.{SelfType}
use Rattle.hir_types.specs.declared.self_types.SelfType.TheVariants as receiver
use Rattle.hir_types.specs.declared.types.HirType.{HirType}
use Rattle.hir_validation.specs.CallbackReturns.{callback_errors}
use Rattle.hir_validation.specs.Visited.{held_errors, visited_errors}
use Rattle.hir_validation.specs.WholeTypes.{CalledType, called_whole, param_whole, returned_whole}

-- ---- receivers: what a struct is held by is asked also where the method takes it itself

abbrev pub self_struct_errors : Definitions → StructPath → List LoweringError
self_struct_errors defs path = where_any (λ def. held_errors path.owner (defined.Struct def)) (slice_get defs.structs.defs path.tcx_id)

abbrev pub self_type_errors : Definitions → SelfType → List LoweringError
self_type_errors defs (receiver.Struct path) = self_struct_errors defs path
self_type_errors defs (receiver.Opaque path) = []
self_type_errors defs (receiver.Enum path) = []

unfoldable pub receiver_errors : Definitions → Option ParamSelf → List LoweringError
receiver_errors defs self = where_any (λ it. self_type_errors defs it.ty) self

-- ---- returns

-- the type of the success and then that of the error, where there are these
abbrev pub types_returned : {P C O I S T : Type 0} → ReturnType P C O I S T → List (HirType P C O I S T)
types_returned output = option_to_list (type_in (success_of output)) ++ option_to_list (error_of output)

-- for a backend whose callbacks must be able to fail, or may not
module _ (must_fail : Bool) (defs : Definitions) where
  -- ---- methods and functions

  abbrev pub param_errors : Param → List LoweringError
  param_errors param = visited_errors must_fail defs (param_whole param.ty)

  abbrev pub returned_errors : ReturnedType → List LoweringError
  returned_errors ty = visited_errors must_fail defs (returned_whole ty)

  unfoldable pub signature_errors : Method → List LoweringError
  signature_errors method = flat_map param_errors method.params ++ flat_map returned_errors (types_returned method.output)

  -- ---- methods of traits

  abbrev pub lowered_trait_param_errors : CallbackParam → List LoweringError
  lowered_trait_param_errors param = returned_errors param.ty

  abbrev pub called_errors : CalledType → List LoweringError
  called_errors ty = visited_errors must_fail defs (called_whole ty)

  unfoldable pub lowered_trait_method_errors : HeldCallback → List LoweringError
  lowered_trait_method_errors method =
      flat_map lowered_trait_param_errors method.params ++ (flat_map called_errors (types_returned method.output) ++ callback_errors must_fail defs method.output)
