use Rattle.bridge_outside.proofs.PrintingLaws.{◌⨟◌}
use Rattle.bridge_printing.proofs.reports.put_report.Goals as goal

pub returns : goal.returns
returns g c = c.put_place_line.ensures ⨟ c.put_error.ensures
