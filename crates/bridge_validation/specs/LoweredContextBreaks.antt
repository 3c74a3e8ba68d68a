-- Which rules the types, the callables and the traits of a context break: each by the file of its name in specs/rules/, here or in
-- `hir_validation`.
use Rattle.std.specs.Prelude.{◌≡◌, ℕ, Bool, true, false}
use Rattle.std.specs.List.{Contains, enumerate_from}
use Rattle.bridge_report.specs.Callables.{Callable}
use Rattle.bridge_report.specs.InContext.{function_callable}
use Rattle.hir_context.specs.Iterating.{all_types}
use Rattle.hir_context.specs.Lookups.{DefinedType, type_methods}
use Rattle.hir_context.specs.declared.parts.Definitions.{Definitions}
use Rattle.hir_definitions.specs.declared.definitions.TraitDef.{TraitDef}
use Rattle.hir_definitions.specs.declared.methods.Method.{Method}
use Rattle.hir_ids.specs.declared.ids.TypeId.{TypeId}
use Rattle.hir_reports.specs.Store.{told_at}
use Rattle.hir_reports.specs.Texts.{plain_error}
use Rattle.hir_reports.specs.declared.report.LoweringError.{LoweringError}
use Rattle.hir_reports.specs.declared.report.LoweringReport.{LoweringReport}
use Rattle.hir_reports.specs.declared.rule.Rule.TheVariants as rule
use Rattle.hir_types.specs.declared.callbacks.Callback.{Callback}
use Rattle.hir_validation.specs.LoweredMethodBreaks.{LoweredMethodBreaks}
use Rattle.hir_validation.specs.LoweredSignatureBreaks.{LoweredSignatureBreaks, LoweredTraitMethodBreaks}
use Rattle.hir_validation.specs.LoweredTypeBreaks.{LoweredTypeBreaks}
use Rattle.bridge_validation.specs.Told.{is_type_method, lowered_method_callable, trait_method_place, type_place}
use Rattle.bridge_validation.specs.rules.ElidedReturn.{ElidedReturn}
use Rattle.bridge_validation.specs.rules.TooManyLeaves.{TooManyLeaves}

-- for a backend whose callbacks must be able to fail, or may not
module _ (must_fail : Bool) (defs : Definitions) where
  -- a callable, by its inputs and its return, by its types, and, where it is a method of a type, by what only functions may do
  pub data CallableBreaks (c : Callable) (method : Method) : LoweringError → Type 0 where
    too_many_leaves : TooManyLeaves c → CallableBreaks c method (plain_error rule.TooManyLeaves)
    elided_return : ElidedReturn c → CallableBreaks c method (plain_error rule.ElidedReturn)
    by_types : (e : LoweringError) → LoweredSignatureBreaks must_fail defs method e → CallableBreaks c method e
    as_method : (e : LoweringError) → is_type_method c.id ≡ true → LoweredMethodBreaks defs method e → CallableBreaks c method e

  -- one of these, at its place
  pub data LoweredContextBreaks : LoweringReport → Type 0 where
    of_type : (entry : TypeId × DefinedType) (e : LoweringError) → Contains (all_types defs) entry → LoweredTypeBreaks must_fail defs entry.1 e
        → LoweredContextBreaks (told_at (type_place defs entry) e)
    of_method : (entry : TypeId × DefinedType) (numbered : ℕ × Method) (e : LoweringError)
        → Contains (all_types defs) entry → Contains (enumerate_from 0 (type_methods entry.1)) numbered
        → CallableBreaks (lowered_method_callable defs entry numbered) numbered.1 e → LoweredContextBreaks (told_at (lowered_method_callable defs entry numbered).place e)
    of_trait_method : (numbered : ℕ × TraitDef) (method : Callback) (e : LoweringError)
        → Contains (enumerate_from 0 defs.traits.defs) numbered → Contains numbered.1.methods method
        → LoweredTraitMethodBreaks must_fail defs method e → LoweredContextBreaks (told_at (trait_method_place defs numbered method) e)
    of_function : (numbered : ℕ × Method) (e : LoweringError)
        → Contains (enumerate_from 0 defs.functions.defs) numbered → numbered.1.attrs.disable ≡ false
        → CallableBreaks (function_callable defs numbered) numbered.1 e → LoweredContextBreaks (told_at (function_callable defs numbered).place e)
