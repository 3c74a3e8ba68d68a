-- Faults as errors, for the list of reports.
use Rattle.std.specs.Prelude.{ℕ, List, [], ◌∷◌}
use Rattle.hir_backends.specs.Support.{flag_text}
use Rattle.hir_reports.specs.declared.report.LoweringError.{LoweringError}
use Rattle.hir_reports.specs.declared.rule.Rule.{Rule}
use Rattle.hir_reports.specs.declared.rule.Rule.TheVariants as rule
use Rattle.bridge_grid.specs.declared.fault.TypeFault.{TypeFault}
use Rattle.bridge_grid.specs.declared.fault.TypeFault.TheVariants.{Broken, Denied}

abbrev pub error_with : Rule → List (List ℕ) → LoweringError
error_with r args = record { rule = r; args = args }

-- a rule with its arguments
abbrev pub fault_error : TypeFault → LoweringError
fault_error (Broken r) = error_with r []
fault_error (Denied flag) = error_with rule.SupportDenied (flag_text flag ∷ [])

-- a field of the name has a type that it may not have
abbrev pub field_error : List ℕ → LoweringError
field_error name = error_with rule.FfiUnsafe (name ∷ [])
