-- What is told of types, and made of them, by what came of numbering them.
use Rattle.std.specs.Prelude.{⊤, List, map, Option, Result, Ok, Err}
use Rattle.bridge_decl.specs.declared.structs.Field.{Field}
use Rattle.hir_form.specs.ParamForms.{all_given}
use Rattle.hir_number.specs.declared.fault.NumberFault.{NumberFault}
use Rattle.hir_number.specs.declared.numbered.NumberedType.{NumberedType}
use Rattle.hir_reports.specs.declared.report.LoweringError.{LoweringError}
use Rattle.hir_signatures.specs.Errors.{number_errors}
use Rattle.hir_fields.specs.Told.{StandsUnlessTold}
use Rattle.hir_fields.specs.Types.{TypeErrors, each_errors}

-- each type is judged, or a lifetime has no number
abbrev pub result_errors : TypeErrors → List Field → Result (List NumberedType) NumberFault → List LoweringError
result_errors errors fields (Ok types) = each_errors errors fields types
result_errors errors fields (Err fault) = number_errors fault

-- where they are numbered, what they stand for is made unless something is told
abbrev pub JudgedWhereNumbered : {T : Type 0} → TypeErrors → (NumberedType → Option T) → List Field → Result (List NumberedType) NumberFault → Option (List T) → Type 0
JudgedWhereNumbered errors form fields (Ok types) made = StandsUnlessTold (each_errors errors fields types) (all_given (map form types)) made
JudgedWhereNumbered errors form fields (Err fault) made = ⊤
