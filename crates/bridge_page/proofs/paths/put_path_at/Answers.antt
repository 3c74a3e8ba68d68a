use Rattle.bridge_outside.proofs.PrintingLaws.{◌⨟◌}
use Rattle.bridge_page.proofs.paths.put_path_at.Goals as goal

pub returns : goal.returns
returns g c = c.put_separator.ensures ⨟ c.put_path.ensures
