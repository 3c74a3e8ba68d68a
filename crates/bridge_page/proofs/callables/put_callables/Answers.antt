use Rattle.bridge_outside.proofs.PrintingLaws.{◌⨟◌, prints_same}
use Rattle.bridge_page.specs.inside.Printed.{callable_text}
use Rattle.bridge_page.proofs.PageLemmas.{reported_there}
use Rattle.bridge_printing.proofs.ReportLemmas.{one_more}
use Rattle.bridge_page.proofs.callables.put_callables.Goals as goal

pub put_callable-requires : goal.put_callable-requires
put_callable-requires g c = reported_there c.args.tcx.now.definitions c.args.reports.now c.requires c.loop-report.report-index c.report-item.result c.loop-report-test.true c.report-item.is

pub loop-report-preserved : goal.loop-report-preserved
loop-report-preserved g c =
    prints_same (one_more (callable_text c.args.tcx.now.definitions) c.args.reports.now c.loop-report.report-index c.report-item.result c.loop-report-test.true c.report-item.is)
    (c.loop-report.invariant ⨟ c.put_callable.ensures)
