-- Which rules a method or a function breaks by the types that it takes and returns, and a method of a trait by its own.
use Rattle.std.specs.Prelude.{Bool}
use Rattle.std.specs.List.{Contains}
use Rattle.hir_context.specs.declared.parts.Definitions.{Definitions}
use Rattle.hir_definitions.specs.declared.methods.Method.{Method}
use Rattle.hir_definitions.specs.declared.methods.Param.{Param}
use Rattle.hir_reports.specs.Texts.{plain_error}
use Rattle.hir_reports.specs.declared.report.LoweringError.{LoweringError}
use Rattle.hir_reports.specs.declared.rule.Rule.TheVariants as rule
use Rattle.hir_types.specs.Named.{ReturnedType}
use Rattle.hir_types.specs.declared.callbacks.Callback.{Callback}
use Rattle.hir_types.specs.declared.callbacks.CallbackParam.{CallbackParam}
use Rattle.hir_validation.specs.Signatures.{types_returned}
use Rattle.hir_validation.specs.VisitedBreaks.{VisitedBreaks}
use Rattle.hir_validation.specs.WholeTypes.{CalledType, called_whole, param_whole, returned_whole}
use Rattle.hir_validation.specs.rules.CallbackReturn.{CallbackReturn}

pub data LoweredSignatureBreaks (must_fail : Bool) (defs : Definitions) (method : Method) (e : LoweringError) : Type 0 where
  param : (p : Param) → Contains method.params p → VisitedBreaks must_fail defs (param_whole p.ty) e → LoweredSignatureBreaks must_fail defs method e
  returned : (ty : ReturnedType) → Contains (types_returned method.output) ty → VisitedBreaks must_fail defs (returned_whole ty) e
      → LoweredSignatureBreaks must_fail defs method e

pub data LoweredTraitMethodBreaks (must_fail : Bool) (defs : Definitions) (method : Callback) : LoweringError → Type 0 where
  param : (p : CallbackParam) (e : LoweringError) → Contains method.params p → VisitedBreaks must_fail defs (returned_whole p.ty) e
      → LoweredTraitMethodBreaks must_fail defs method e
  returned : (ty : CalledType) (e : LoweringError) → Contains (types_returned method.output) ty → VisitedBreaks must_fail defs (called_whole ty) e
      → LoweredTraitMethodBreaks must_fail defs method e
  callback_return : CallbackReturn must_fail defs method.output → LoweredTraitMethodBreaks must_fail defs method (plain_error rule.CallbackReturn)
