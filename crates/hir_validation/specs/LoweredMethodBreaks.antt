-- Which rules a method of a type breaks as what it is lowered to: each by the file of its name in specs/rules/.
use Rattle.std.specs.Prelude.{◌≡◌, ℕ, List, Some, slice_get}
use Rattle.std.specs.List.{Contains}
use Rattle.hir_attrs.specs.Reading.{about}
use Rattle.hir_context.specs.Lookups.{InputStruct}
use Rattle.hir_context.specs.declared.parts.Definitions.{Definitions}
use Rattle.hir_definitions.specs.declared.methods.Method.{Method}
use Rattle.hir_definitions.specs.declared.methods.Param.{Param}
use Rattle.hir_definitions.specs.declared.methods.ParamSelf.{ParamSelf}
use Rattle.hir_ids.specs.declared.ids.TypeId.{TypeId}
use Rattle.hir_ids.specs.declared.owners.MaybeOwn.{MaybeOwn}
use Rattle.hir_life.specs.Naming.{printed_name}
use Rattle.hir_life.specs.declared.maybe_static.MaybeStatic.{MaybeStatic}
use Rattle.hir_reports.specs.Texts.{plain_error}
use Rattle.hir_reports.specs.declared.report.LoweringError.{LoweringError}
use Rattle.hir_reports.specs.declared.rule.Rule.TheVariants as rule
use Rattle.hir_types.specs.Named.{ReturnedType, contained, lifetimes_named}
use Rattle.hir_types.specs.declared.paths.StructPath.{StructPath}
use Rattle.hir_types.specs.declared.self_types.SelfType.TheVariants as receiver
use Rattle.hir_validation.specs.ImpliedBounds.{bound_error, param_source, return_source}
use Rattle.hir_validation.specs.Returned.{element_error}
use Rattle.hir_validation.specs.WholeTypes.{Struct, param_whole, returned_whole}
use Rattle.hir_validation.specs.rules.ImpliedBound.{ImpliedBound}
use Rattle.hir_validation.specs.rules.MutStructRef.{MutStructRef}
use Rattle.hir_validation.specs.rules.OpaqueSliceBorrowed.{OpaqueSliceBorrowed}
use Rattle.hir_validation.specs.rules.StructRefReturned.{StructRefReturned}
use Rattle.hir_validation.specs.rules.TupleReference.{TupleReference}

-- the receiver is that struct, by value or behind a reference
pub record HasReceiver (defs : Definitions) (method : Method) (held : MaybeOwn) (def : InputStruct) : Type 0 where
  pub self : ParamSelf
  pub is : method.param_self ≡ Some self
  pub path : StructPath
  pub of_struct : self.ty ≡ receiver.Struct path
  pub is_held : held ≡ path.owner
  pub found : slice_get defs.structs.defs path.tcx_id ≡ Some def

pub data LoweredMethodBreaks (defs : Definitions) (method : Method) : LoweringError → Type 0 where
  receiver_mutable : (held : MaybeOwn) (def : InputStruct) → HasReceiver defs method held def → MutStructRef def held
      → LoweredMethodBreaks defs method (about rule.MutStructRef def.name.0)
  receiver_tuple : (held : MaybeOwn) (def : InputStruct) → HasReceiver defs method held def → TupleReference def
      → LoweredMethodBreaks defs method (plain_error rule.TupleReference)
  param_bound : (param : Param) (longer shorter : ℕ) (names : List (List ℕ)) → Contains method.params param
      → ImpliedBound defs method.lifetime_env (param_whole param.ty) longer shorter names
      → LoweredMethodBreaks defs method (bound_error method.lifetime_env (param_source param.name) shorter longer names)
  return_bound : (ty : ReturnedType) (longer shorter : ℕ) (names : List (List ℕ)) → Contains (contained method.output) ty
      → ImpliedBound defs method.lifetime_env (returned_whole ty) longer shorter names
      → LoweredMethodBreaks defs method (bound_error method.lifetime_env return_source shorter longer names)
  receiver_returned : (self : ParamSelf) (path : StructPath) (lifetime : ℕ) → method.param_self ≡ Some self → self.ty ≡ receiver.Struct path
      → StructRefReturned method.lifetime_env (lifetimes_named method.output) path.owner lifetime
      → LoweredMethodBreaks defs method (about rule.StructRefReturned (printed_name method.lifetime_env lifetime))
  param_returned : (param : Param) (id : TypeId) (held : MaybeOwn) (given : List (MaybeStatic ℕ)) (lifetime : ℕ) → Contains method.params param
      → param_whole param.ty ≡ Struct id held given → StructRefReturned method.lifetime_env (lifetimes_named method.output) held lifetime
      → LoweredMethodBreaks defs method (about rule.StructRefReturned (printed_name method.lifetime_env lifetime))
  opaque_slice_borrowed : (param : Param) (lifetime : ℕ) → Contains method.params param
      → OpaqueSliceBorrowed method.lifetime_env (lifetimes_named method.output) param lifetime
      → LoweredMethodBreaks defs method (element_error method.lifetime_env (lifetimes_named method.output) param.name lifetime)
