use Rattle.std.proofs.Common.{ap}
use Rattle.std.specs.Prelude.{decimal}
use Rattle.bridge_outside.proofs.PrintingLaws.{◌⨟◌, prints_same}
use Rattle.bridge_explain.proofs.lines.put_after_space.Goals as goal

pub returns : goal.returns
returns g c = c.put_text.ensures ⨟ prints_same (ap decimal c.index.ensures) c.put_number.ensures
