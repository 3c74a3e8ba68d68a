-- What is wrong in the types of a whole signature, and what they stand for.
use Rattle.std.specs.Prelude.{ℕ, List, [], ◌++◌, Option, Some, None, option_map}
use Rattle.std.specs.List.{flat_map}
use Rattle.bridge_decl.specs.declared.types.Mutability.{Mutability}
use Rattle.bridge_decl.specs.declared.types.WriteType.{WriteType}
use Rattle.bridge_grid.specs.Items.{receiver_faults, writer_faults}
use Rattle.bridge_grid.specs.Params.{param_faults}
use Rattle.bridge_grid.specs.Returns.{returned_faults}
use Rattle.bridge_grid.specs.declared.fault.TypeFault.{TypeFault}
use Rattle.bridge_order.specs.declared.catalog.Catalog.{Catalog}
use Rattle.bridge_rules.specs.declared.position.Position.TheVariants.{Return}
use Rattle.hir_backends.specs.declared.support.BackendAttrSupport.{BackendAttrSupport}
use Rattle.hir_life.specs.declared.maybe_static.MaybeStatic.{MaybeStatic}
use Rattle.hir_config.specs.declared.config.LoweringConfig.{LoweringConfig}
use Rattle.hir_number.specs.declared.numbered.NumberedType.{NumberedType}
use Rattle.hir_number.specs.declared.numbered.Target.{Target}
use Rattle.hir_number.specs.declared.signature.NumberedSignature.{NumberedSignature}
use Rattle.hir_types.specs.Named.{Returned}
use Rattle.hir_types.specs.declared.returns.ReturnType.TheVariants as returned
use Rattle.hir_types.specs.declared.self_types.SelfType.{SelfType}
use Rattle.hir_form.specs.declared.signatures.LoweredSignature.{LoweredSignature}
use Rattle.hir_form.specs.ParamForms.{ParamType, method_return_form, params_form}
use Rattle.hir_form.specs.ReceiverForms.{receiver_form}
use Rattle.hir_form.specs.ReturnForms.{both_given, unit_form}

-- ---- what is wrong

abbrev pub own_faults : BackendAttrSupport → Catalog → Option (MaybeStatic ℕ × Mutability) → Option Target → List TypeFault
own_faults support catalog borrow (Some target) = receiver_faults support catalog borrow target.place
own_faults support catalog borrow None = []

abbrev pub written_faults : BackendAttrSupport → Option WriteType → List TypeFault
written_faults support (Some w) = writer_faults support w
written_faults support None = []

abbrev pub output_faults : BackendAttrSupport → Catalog → Option NumberedType → List TypeFault
output_faults support catalog (Some ty) = returned_faults support catalog Return ty
output_faults support catalog None = []

-- of the receiver, the parameters from left to right, the trailing writer and the return
abbrev pub signature_faults : BackendAttrSupport → LoweringConfig → Catalog → Option WriteType → NumberedSignature → List TypeFault
signature_faults support config catalog written s = own_faults support catalog s.borrow s.own
    ++ (flat_map (param_faults support config catalog) s.params
    ++ (written_faults support written ++ output_faults support catalog s.output))

-- ---- what they stand for

-- a function has no receiver
abbrev pub own_form : Catalog → Option (MaybeStatic ℕ × Mutability) → Option Target → Option (Option SelfType)
own_form catalog borrow (Some target) = option_map (λ r. Some r) (receiver_form catalog borrow target)
own_form catalog borrow None = Some None

-- no return is the return of `()`
abbrev pub output_form : Catalog → Option WriteType → Option NumberedType → Option Returned
output_form catalog written (Some ty) = method_return_form catalog written ty
output_form catalog written None = Some (returned.Infallible (unit_form written))

abbrev pub lowered_signature : Option SelfType → List ParamType → Returned → LoweredSignature
lowered_signature receiver params output = record { param_self = receiver; params = params; output = output }

abbrev pub signature_form : Catalog → Option WriteType → NumberedSignature → Option LoweredSignature
signature_form catalog written s = both_given (λ make output. make output)
    (both_given (λ receiver params. lowered_signature receiver params) (own_form catalog s.borrow s.own) (params_form catalog s.params))
    (output_form catalog written s.output)
