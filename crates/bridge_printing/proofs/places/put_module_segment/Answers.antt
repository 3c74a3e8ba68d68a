use Rattle.bridge_outside.proofs.PrintingLaws.{◌⨟◌, prints_same}
use Rattle.bridge_printing.proofs.places.put_module_segment.Goals as goal

pub returns : goal.returns
returns g c = c.put_separator.ensures ⨟ prints_same c.as_str.ensures c.put_text.ensures
