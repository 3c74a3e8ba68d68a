use Rattle.bridge_outside.proofs.PrintingLaws.{◌⨟◌}
use Rattle.bridge_printing.proofs.errors.put_piece.Goals as goal

pub returns : goal.returns
returns g c = c.put_argument.ensures ⨟ c.put_text.ensures
