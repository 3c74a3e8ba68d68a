use Rattle.bridge_outside.proofs.PrintingLaws.{◌⨟◌}
use Rattle.bridge_page.proofs.lines.put_returned.Goals as goal

pub returns : goal.returns
returns g c = c.put_paths_line.ensures ⨟ c.put_edges_line.ensures
