use Rattle.std.proofs.Common.{◌+◌, ap, subst, sym, ◌∙◌, take, map}
use Rattle.std.specs.List.{AllZip}
use Rattle.bridge_report.proofs.Listed.{read_there}
use Rattle.bridge_report.specs.InContext.{callable_at}
use Rattle.bridge_borrow.proofs.Reporting.{ReportsId, are_reported, reports_next}
use Rattle.bridge_borrow.proofs.callables.borrowings.Goals as goal

pub report_of-requires : goal.report_of-requires
report_of-requires c =
    let defs = c.args.tcx.now.definitions in
    read_there defs c.as_slice-id-items.result.now (ap (map (callable_at defs)) c.as_slice-id-items.ensures ∙ c.in_ok-ids.ensures) c.loop-id.id-index
    c.id-item.result c.loop-id-test.true c.id-item.is

pub loop-id-preserved : goal.loop-id-preserved
loop-id-preserved c =
    let defs = c.args.tcx.now.definitions in
    subst (AllZip (ReportsId defs) (take (c.loop-id.id-index + 1) c.as_slice-id-items.result.now)) (sym c.in_ok-push.ensures.ok)
    (reports_next defs c.as_slice-id-items.result.now c.loop-id.id-index c.id-item.result c.loop-id.reports c.in_ok-report_of.field-0 c.loop-id-test.true c.id-item.is
    c.loop-id.invariant c.in_ok-report_of.ensures)

pub returns : goal.returns
returns c =
    let defs = c.args.tcx.now.definitions in
    are_reported defs c.as_slice-id-items.result.now c.loop-id.reports (ap (map (callable_at defs)) c.as_slice-id-items.ensures ∙ c.in_ok-ids.ensures)
    c.loop-id.id-index c.loop-id-test.false c.loop-id.invariant
