use Rattle.std.proofs.Common.{take}
use Rattle.std.specs.List.{flat_map}
use Rattle.hir_reports.specs.Texts.{report_text}
use Rattle.bridge_outside.specs.Printing.{Prints}
use Rattle.bridge_printing.proofs.reports.put_reports.Given as goal

abbrev pub invariant-loop-report : goal.invariant-loop-report
invariant-loop-report g l = Prints (g.K.Sink.state l.fn.sink) l.fn.out (g.K.Sink.state l.sink) l.out (flat_map report_text (take l.report-index l.reports))
