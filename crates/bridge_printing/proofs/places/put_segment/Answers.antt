use Rattle.bridge_outside.proofs.PrintingLaws.{◌⨟◌}
use Rattle.bridge_printing.proofs.places.put_segment.Goals as goal

pub returns : goal.returns
returns g c = c.put_colons.ensures ⨟ c.put_text.ensures
