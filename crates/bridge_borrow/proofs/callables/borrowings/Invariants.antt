use Rattle.std.proofs.Common.{take}
use Rattle.std.specs.List.{AllZip}
use Rattle.bridge_borrow.proofs.Reporting.{ReportsId}
use Rattle.bridge_borrow.proofs.callables.borrowings.Given as goal

-- the reports are those of the ids so far
abbrev pub invariant-loop-id : goal.invariant-loop-id
invariant-loop-id l = AllZip (ReportsId l.tcx.definitions) (take l.id-index l.id-items) l.reports
