use Rattle.bridge_outside.proofs.PrintingLaws.{◌⨟◌}
use Rattle.bridge_printing.proofs.reports.put_end.Goals as goal

pub returns : goal.returns
returns g c = c.put_text.ensures ⨟ c.put_number.ensures ⨟ c.put_text-2.ensures
