use Rattle.bridge_outside.proofs.PrintingLaws.{◌⨟◌}
use Rattle.bridge_summary.proofs.summary.put_summary.Goals as goal

pub returns : goal.returns
returns g c = c.put_text.ensures ⨟ c.put_number.ensures ⨟ c.put_text-2.ensures ⨟ c.put_number-2.ensures ⨟ c.put_text-3.ensures
