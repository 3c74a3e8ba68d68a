use Rattle.bridge_outside.proofs.PrintingLaws.{◌⨟◌, delivers}
use Rattle.bridge_page.specs.inside.Printed.{printed_page}
use Rattle.bridge_page.proofs.PageLemmas.{page_is}
use Rattle.bridge_page.proofs.callables.print_page.Goals as goal

pub returns : goal.returns
returns g c = record {
  text = printed_page c.args.tcx.now.definitions c.args.reports.now;
  page = page_is c.args.tcx.now.definitions c.args.reports.now c.requires.reported;
  delivered = delivers _ c.new-out.ensures (c.put_callables.ensures ⨟ c.put_end.ensures) c.finish.ensures.prints c.finish.ensures.end;
}
