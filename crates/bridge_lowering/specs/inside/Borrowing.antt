-- What the results of the callables of a context may borrow, or what in it breaks a rule.
use Rattle.std.specs.Prelude.{◌≡◌, ◌≢◌, ⊤, [], Bool, Result, Ok, Err}
use Rattle.bridge_report.specs.Borrowings.{AreReported}
use Rattle.bridge_report.specs.InContext.{callables}
use Rattle.bridge_validation.specs.Told.{context_reports}
use Rattle.bridge_report.specs.declared.report.BridgeReport.{BridgeReport}
use Rattle.hir_context.specs.declared.parts.Definitions.{Definitions}
use Rattle.hir_lower.specs.declared.fault.LowerFault.{LowerFault}
use Rattle.hir_lower.specs.declared.fault.LowerFault.TheVariants as fault

-- nothing breaks a rule, for a backend whose callbacks must be able to fail, or may not, and this is the report of all
pub record IsReportIn (must_fail : Bool) (defs : Definitions) (report : BridgeReport) : Type 0 where
  pub context : report.tcx.definitions ≡ defs
  pub unbroken : context_reports must_fail defs ≡ []
  pub reported : AreReported (callables defs) report.callables

abbrev pub BorrowsIn : Bool → Definitions → Result BridgeReport LowerFault → Type 0
BorrowsIn must_fail defs (Ok report) = IsReportIn must_fail defs report
BorrowsIn must_fail defs (Err (fault.Refused told)) = (told.items ≡ context_reports must_fail defs) × (told.items ≢ [])
BorrowsIn must_fail defs (Err fault.NoMemory) = ⊤
