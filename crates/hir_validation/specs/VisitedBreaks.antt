-- Which rules a visited type breaks: each by the file of its name in specs/rules/.
use Rattle.std.specs.Prelude.{◌≡◌, ℕ, List, Bool, Some, slice_get}
use Rattle.hir_attrs.specs.Reading.{about}
use Rattle.hir_context.specs.Lookups.{InputStruct}
use Rattle.hir_context.specs.declared.parts.Definitions.{Definitions}
use Rattle.hir_ids.specs.declared.ids.TypeId.TheVariants as type
use Rattle.hir_ids.specs.declared.owners.Borrow.{Borrow}
use Rattle.hir_ids.specs.declared.owners.MaybeOwn.TheVariants as owner
use Rattle.hir_life.specs.declared.maybe_static.MaybeStatic.{MaybeStatic}
use Rattle.hir_reports.specs.Texts.{plain_error}
use Rattle.hir_reports.specs.declared.report.LoweringError.{LoweringError}
use Rattle.hir_reports.specs.declared.rule.Rule.TheVariants as rule
use Rattle.hir_validation.specs.WholeTypes.{CallbackOutput, Whole, Callback, Struct}
use Rattle.hir_validation.specs.rules.AbiUnmarked.{AbiUnmarked}
use Rattle.hir_validation.specs.rules.CallbackReturn.{CallbackReturn}
use Rattle.hir_validation.specs.rules.MutStructRef.{MutStructRef}
use Rattle.hir_validation.specs.rules.OutStructSlice.{OutStructSlice}
use Rattle.hir_validation.specs.rules.TupleReference.{TupleReference}

-- the type is a reference to that struct
pub record RefersTo (defs : Definitions) (ty : Whole) (borrow : Borrow) (def : InputStruct) : Type 0 where
  pub number : ℕ
  pub given : List (MaybeStatic ℕ)
  pub is_reference : ty ≡ Struct (type.Struct number) (owner.Borrow borrow) given
  pub found : slice_get defs.structs.defs number ≡ Some def

-- for a backend whose callbacks must be able to fail, or may not
pub data VisitedBreaks (must_fail : Bool) (defs : Definitions) (ty : Whole) : LoweringError → Type 0 where
  abi_unmarked : (name : List ℕ) → AbiUnmarked defs ty name → VisitedBreaks must_fail defs ty (about rule.AbiUnmarked name)
  out_struct_slice : OutStructSlice defs ty → VisitedBreaks must_fail defs ty (plain_error rule.OutStructSlice)
  mut_struct_ref : (borrow : Borrow) (def : InputStruct) → RefersTo defs ty borrow def → MutStructRef def (owner.Borrow borrow)
      → VisitedBreaks must_fail defs ty (about rule.MutStructRef def.name.0)
  tuple_reference : (borrow : Borrow) (def : InputStruct) → RefersTo defs ty borrow def → TupleReference def
      → VisitedBreaks must_fail defs ty (plain_error rule.TupleReference)
  callback_return : (output : CallbackOutput) → ty ≡ Callback output → CallbackReturn must_fail defs output
      → VisitedBreaks must_fail defs ty (plain_error rule.CallbackReturn)
