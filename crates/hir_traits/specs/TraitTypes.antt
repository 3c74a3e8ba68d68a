-- The types of a trait's method: what is told of them where they stand, and what they stand for.
use Rattle.std.specs.Prelude.{List, [], ◌++◌, map, Option, Some, None, option_map}
use Rattle.std.specs.List.{flat_map}
use Rattle.bridge_ast.specs.declared.place.ItemPlace.{ItemPlace}
use Rattle.bridge_decl.specs.declared.traits.TraitMethod.{TraitMethod}
use Rattle.bridge_grid.specs.Params.{callback_param_faults}
use Rattle.bridge_grid.specs.Returns.{returned_faults}
use Rattle.bridge_grid.specs.Telling.{fault_error}
use Rattle.bridge_order.specs.Catalog.{entry_at, id_of}
use Rattle.bridge_order.specs.declared.catalog.Catalog.{Catalog}
use Rattle.bridge_rules.specs.declared.position.Position.TheVariants as position
use Rattle.hir_backends.specs.declared.support.BackendAttrSupport.{BackendAttrSupport}
use Rattle.hir_form.specs.Forms.{trait_path}
use Rattle.hir_form.specs.ParamForms.{CallbackReturned, all_given, callback_return_form, out_type_form}
use Rattle.hir_form.specs.ReturnForms.{both_given}
use Rattle.hir_config.specs.declared.config.LoweringConfig.{LoweringConfig}
use Rattle.hir_number.specs.Breaches.{trait_method_breaches}
use Rattle.hir_number.specs.Naming.{Naming}
use Rattle.hir_number.specs.declared.numbered.NumberedType.{NumberedType}
use Rattle.hir_number.specs.declared.numbered.TraitTarget.{TraitTarget}
use Rattle.hir_number.specs.declared.trait_methods.NumberedTraitMethod.{NumberedTraitMethod}
use Rattle.hir_reports.specs.declared.report.LoweringError.{LoweringError}
use Rattle.hir_types.specs.Named.{ReturnedType}
use Rattle.hir_types.specs.declared.callbacks.TraitParamSelf.{TraitParamSelf}
use Rattle.hir_types.specs.declared.returns.ReturnType.TheVariants as returned
use Rattle.hir_types.specs.declared.returns.SuccessType.TheVariants as success
use Rattle.hir_traits.specs.TraitStages.{trait_method_stage, trait_stage_errors, trait_stage_form}
use Rattle.hir_traits.specs.declared.judging.TraitMethodTypes.{TraitMethodTypes}

-- ---- what is told of numbered types

-- a parameter stands where a callback's would
abbrev pub trait_param_errors : BackendAttrSupport → LoweringConfig → Catalog → NumberedType → List LoweringError
trait_param_errors support config catalog ty = map fault_error (callback_param_faults support config catalog ty)

-- and so does the return
abbrev pub trait_output_errors : BackendAttrSupport → Catalog → Option NumberedType → List LoweringError
trait_output_errors support catalog None = []
trait_output_errors support catalog (Some ty) = map fault_error (returned_faults support catalog position.CallbackReturn ty)

-- the parameters from left to right, and then the return
abbrev pub trait_judged_errors : BackendAttrSupport → LoweringConfig → Catalog → NumberedTraitMethod → List LoweringError
trait_judged_errors support config catalog n =
    flat_map (trait_param_errors support config catalog) n.params
    ++ trait_output_errors support catalog n.output

-- ---- what they stand for

-- the receiver: the path to its trait
abbrev pub trait_receiver_form : Catalog → TraitTarget → TraitParamSelf
trait_receiver_form catalog target = record { trait_path = trait_path target.lifetimes (id_of (entry_at catalog target.place)) }

abbrev pub trait_params_form : Catalog → List NumberedType → Option (List ReturnedType)
trait_params_form catalog types = all_given (map (out_type_form catalog) types)

-- no return is the return of `()`
abbrev pub trait_output_form : Catalog → Option NumberedType → Option CallbackReturned
trait_output_form catalog None = Some (returned.Infallible success.Unit)
trait_output_form catalog (Some ty) = callback_return_form catalog ty

abbrev pub trait_types_with : Option TraitParamSelf → List ReturnedType → CallbackReturned → TraitMethodTypes
trait_types_with receiver params output = record { param_self = receiver; params = params; output = output }

abbrev pub trait_types_form : Catalog → NumberedTraitMethod → Option TraitMethodTypes
trait_types_form catalog n =
    both_given (trait_types_with (option_map (trait_receiver_form catalog) n.own)) (trait_params_form catalog n.params) (trait_output_form catalog n.output)

-- ---- by the stage that the declaration gives

-- of a method of the trait there
abbrev pub trait_method_type_errors : BackendAttrSupport → LoweringConfig → Catalog → Naming → ItemPlace → TraitMethod → List LoweringError
trait_method_type_errors support config catalog names place method =
    trait_stage_errors (trait_method_breaches names place method) (trait_judged_errors support config catalog) (trait_method_stage names place method)

abbrev pub trait_method_types : Catalog → Naming → ItemPlace → TraitMethod → Option TraitMethodTypes
trait_method_types catalog names place method = trait_stage_form (trait_types_form catalog) (trait_method_stage names place method)
