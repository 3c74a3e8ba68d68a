use Rattle.bridge_outside.proofs.PrintingLaws.{◌⨟◌, delivers}
use Rattle.bridge_printing.proofs.reports.print_reports.Goals as goal

pub returns : goal.returns
returns g c = delivers _ c.new-out.ensures (c.put_reports.ensures ⨟ c.put_end.ensures) c.finish.ensures.prints c.finish.ensures.end
