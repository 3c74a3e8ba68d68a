use Rattle.std.proofs.Common.{◌≡◌, drop}
use Rattle.bridge_report.specs.InContext.{callables}
use Rattle.bridge_explain.specs.Explained.{callable_called}
use Rattle.bridge_explain.proofs.callables.find_callable.Given as goal

abbrev pub invariant-loop-report : goal.invariant-loop-report
invariant-loop-report l = callable_called l.word (callables l.tcx.definitions) ≡ callable_called l.word (drop l.report-index (callables l.tcx.definitions))
