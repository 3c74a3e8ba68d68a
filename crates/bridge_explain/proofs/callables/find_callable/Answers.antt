use Rattle.bridge_explain.proofs.Reports.{another_is_called, is_there, it_is_called, none_is_called}
use Rattle.bridge_explain.proofs.callables.find_callable.Goals as goal

pub is_called-requires : goal.is_called-requires
is_called-requires c = is_there c.args.tcx.now.definitions c.args.reports.now c.requires c.loop-report.report-index c.report-item.result c.loop-report-test.true c.report-item.is

pub returns-then-is_called : goal.returns-then-is_called
returns-then-is_called c =
    it_is_called c.args.tcx.now.definitions c.args.reports.now c.requires c.loop-report.report-index c.report-item.result c.loop-report-test.true c.report-item.is
    c.args.word.now c.is_called.result c.is_called.ensures c.loop-report.invariant c.if-is_called.true

pub loop-report-preserved : goal.loop-report-preserved
loop-report-preserved c =
    another_is_called c.args.tcx.now.definitions c.args.reports.now c.requires c.loop-report.report-index c.report-item.result c.loop-report-test.true c.report-item.is
    c.args.word.now c.is_called.result c.is_called.ensures c.loop-report.invariant c.if-is_called.false

pub returns : goal.returns
returns c = none_is_called c.args.tcx.now.definitions c.args.reports.now c.requires c.args.word.now c.loop-report.report-index c.loop-report.invariant c.loop-report-test.false
