use Rattle.std.proofs.Common.{[], None}
use Rattle.bridge_report.specs.declared.report.CallableId.TheVariants as callable
use Rattle.hir_reports.specs.Store.{at_place}
use Rattle.bridge_validation.proofs.callables.Tested.is_crowded.Goals as goal

-- whichever it is, and wherever it stands
pub returns : goal.returns
returns c = c.has_too_many.ensures (callable.Function 0) (at_place [] [] None)
