use Rattle.bridge_outside.proofs.PrintingLaws.{◌⨟◌, prints_same}
use Rattle.bridge_page.specs.inside.Printed.{returned_text}
use Rattle.bridge_printing.proofs.ReportLemmas.{one_more}
use Rattle.bridge_page.proofs.lines.put_all_returned.Goals as goal

pub loop-lifetime-preserved : goal.loop-lifetime-preserved
loop-lifetime-preserved g c =
    prints_same
    (one_more (returned_text c.args.tcx.now.definitions c.args.method.now) c.args.returned.now c.loop-lifetime.lifetime-index c.lifetime-item.result c.loop-lifetime-test.true c.lifetime-item.is)
    (c.loop-lifetime.invariant ⨟ c.put_returned.ensures)
