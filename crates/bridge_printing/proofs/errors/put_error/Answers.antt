use Rattle.bridge_outside.proofs.PrintingLaws.{◌⨟◌, prints_same}
use Rattle.bridge_printing.proofs.errors.put_error.Goals as goal

pub returns : goal.returns
returns g c = prints_same c.name.ensures c.put_text.ensures ⨟ c.put_text-2.ensures ⨟ c.put_error_text.ensures ⨟ c.put_text-3.ensures
