-- Which rules a type breaks at itself: a struct by its layout, and by the types of its fields.
use Rattle.std.specs.Prelude.{ℕ, List, Bool}
use Rattle.std.specs.List.{Contains}
use Rattle.hir_attrs.specs.Reading.{about}
use Rattle.hir_context.specs.Lookups.{DefinedType, InputStruct, Struct}
use Rattle.hir_context.specs.declared.parts.Definitions.{Definitions}
use Rattle.hir_reports.specs.declared.report.LoweringError.{LoweringError}
use Rattle.hir_reports.specs.declared.rule.Rule.TheVariants as rule
use Rattle.hir_validation.specs.Structs.{LoweredField}
use Rattle.hir_validation.specs.VisitedBreaks.{VisitedBreaks}
use Rattle.hir_validation.specs.WholeTypes.{Whole, field_whole}
use Rattle.hir_validation.specs.rules.AbiLayout.{AbiLayout}
use Rattle.hir_validation.specs.rules.FieldBorrow.{FieldBorrow}

-- a field of this name and this type
pub data FieldBreaks (must_fail : Bool) (defs : Definitions) (name : List ℕ) (ty : Whole) : LoweringError → Type 0 where
  visited : (e : LoweringError) → VisitedBreaks must_fail defs ty e → FieldBreaks must_fail defs name ty e
  field_borrow : FieldBorrow ty → FieldBreaks must_fail defs name ty (about rule.FieldBorrow name)

pub data LoweredTypeBreaks (must_fail : Bool) (defs : Definitions) : DefinedType → LoweringError → Type 0 where
  abi_layout : (def : InputStruct) → AbiLayout defs def → LoweredTypeBreaks must_fail defs (Struct def) (about rule.AbiLayout def.name.0)
  field : (def : InputStruct) (f : LoweredField) (e : LoweringError) → Contains def.fields f → FieldBreaks must_fail defs f.name (field_whole f.ty) e
      → LoweredTypeBreaks must_fail defs (Struct def) e
