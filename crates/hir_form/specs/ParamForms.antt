-- What each part of a signature stands for: fields, parameters with their callbacks, and what is returned.
use Rattle.std.specs.Prelude.{ℕ, List, [], ◌∷◌, map, Option, Some, None, option_map}
use Rattle.bridge_decl.specs.declared.types.WriteType.{WriteType}
use Rattle.bridge_order.specs.declared.catalog.Catalog.{Catalog}
use Rattle.hir_ids.specs.declared.owners.Borrow.{Borrow}
use Rattle.hir_number.specs.declared.numbered.NumberedType.{NumberedType, out-NumberedType}
use Rattle.hir_number.specs.declared.numbered.NumberedType.TheOpen.{NumberedType-F}
use Rattle.hir_types.specs.Named.{Returned, ReturnedType}
use Rattle.hir_types.specs.SelfTypes.{FieldType}
use Rattle.hir_types.specs.declared.callbacks.Callback.{Callback}
use Rattle.hir_types.specs.declared.callbacks.CallbackParam.{CallbackParam}
use Rattle.hir_types.specs.declared.callbacks.NoCallback.{NoCallback}
use Rattle.hir_types.specs.declared.paths.StructPath.{StructPath}
use Rattle.hir_types.specs.declared.paths.TraitPath.{TraitPath}
use Rattle.hir_types.specs.declared.positions.CallbackReturn.{CallbackReturn}
use Rattle.hir_types.specs.declared.positions.InputOnly.{InputOnly}
use Rattle.hir_types.specs.declared.returns.ReturnType.{ReturnType}
use Rattle.hir_types.specs.declared.types.HirType.{HirType}
use Rattle.hir_form.specs.Forms.{callback_type}
use Rattle.hir_form.specs.Makers.{of_fields, of_inputs, of_outputs}
use Rattle.hir_form.specs.ReturnForms.{both_given, return_form}
use Rattle.hir_form.specs.TypeForms.{type_form}

-- ---- the types at the positions

abbrev pub ParamType : Type 0
ParamType = HirType InputOnly Callback Borrow ℕ StructPath TraitPath

abbrev pub CallbackReturned : Type 0
CallbackReturned = ReturnType CallbackReturn NoCallback Borrow ℕ StructPath TraitPath

-- the field of a struct
abbrev pub field_form : Catalog → NumberedType → Option FieldType
field_form catalog ty = type_form of_fields catalog ty

-- what goes out by itself: the field of an out-struct, and what a callback or a trait's method takes
abbrev pub out_type_form : Catalog → NumberedType → Option ReturnedType
out_type_form catalog ty = type_form of_outputs catalog ty

-- what a method or a function returns
abbrev pub method_return_form : Catalog → Option WriteType → NumberedType → Option Returned
method_return_form catalog written ty = return_form of_outputs catalog written ty

-- what a callback or a trait's method returns, which has no writer
abbrev pub callback_return_form : Catalog → NumberedType → Option CallbackReturned
callback_return_form catalog ty = return_form of_inputs catalog None ty

-- ---- callbacks

-- all of them, where there is each
abbrev pub all_given : {A : Type 0} → List (Option A) → Option (List A)
all_given [] = Some []
all_given (Some x ∷ xs) = option_map (λ rest. x ∷ rest) (all_given xs)
all_given (None ∷ xs) = None

-- a parameter of a function has no name
abbrev pub nameless : ReturnedType → CallbackParam
nameless t = record { ty = t; name = None }

abbrev pub callback_param_form : Catalog → NumberedType → Option CallbackParam
callback_param_form catalog ty = option_map nameless (out_type_form catalog ty)

abbrev pub callback_params_form : Catalog → List NumberedType → Option (List CallbackParam)
callback_params_form catalog inputs = all_given (map (callback_param_form catalog) inputs)

-- a function: neither it nor what it takes has a name, and it has no receiver
abbrev pub nameless_callback : List CallbackParam → CallbackReturned → Callback
nameless_callback params output = record { param_self = None; params = params; output = output; name = None; attrs = None; docs = None }

abbrev pub callback_form : Catalog → List NumberedType → NumberedType → Option Callback
callback_form catalog inputs output =
    both_given nameless_callback (callback_params_form catalog inputs) (callback_return_form catalog output)

-- ---- parameters

-- a parameter that is no function
abbrev pub input_form : Catalog → NumberedType → Option ParamType
input_form catalog ty = type_form of_inputs catalog ty

abbrev pub level_param_form : Catalog → NumberedType → NumberedType-F NumberedType → Option ParamType
level_param_form catalog ty (NumberedType-F.Function inputs output _) =
    option_map callback_type (callback_form catalog inputs output)
level_param_form catalog ty _ = input_form catalog ty

-- a parameter of a method or a function
abbrev pub param_form : Catalog → NumberedType → Option ParamType
param_form catalog ty = level_param_form catalog ty (out-NumberedType ty)

-- all of them
abbrev pub params_form : Catalog → List NumberedType → Option (List ParamType)
params_form catalog types = all_given (map (param_form catalog) types)
