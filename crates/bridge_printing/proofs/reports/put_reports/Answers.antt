use Rattle.hir_reports.specs.Texts.{report_text}
use Rattle.bridge_outside.proofs.PrintingLaws.{◌⨟◌, prints_same}
use Rattle.bridge_printing.proofs.ReportLemmas.{one_more}
use Rattle.bridge_printing.proofs.reports.put_reports.Goals as goal

pub loop-report-preserved : goal.loop-report-preserved
loop-report-preserved g c =
    prints_same (one_more report_text c.args.reports.now c.loop-report.report-index c.report-item.result c.loop-report-test.true c.report-item.is)
    (c.loop-report.invariant ⨟ c.put_report.ensures)
