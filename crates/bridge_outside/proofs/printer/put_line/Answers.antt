use Rattle.bridge_outside.proofs.PrintingLaws.{◌⨟◌}
use Rattle.bridge_outside.proofs.printer.put_line.Goals as goal

pub returns : goal.returns
returns g c = c.put_text.ensures ⨟ c.put.ensures
