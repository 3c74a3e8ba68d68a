use Rattle.bridge_outside.proofs.PrintingLaws.{◌⨟◌}
use Rattle.bridge_outside.proofs.printer.put_after_flush.Goals as goal

pub returns : goal.returns
returns g c = c.flush.ensures.prints ⨟ c.put_first.ensures
