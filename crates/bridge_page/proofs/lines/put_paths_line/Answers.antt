use Rattle.std.proofs.Common.{ap}
use Rattle.std.specs.Prelude.{decimal}
use Rattle.bridge_outside.proofs.PrintingLaws.{◌⨟◌, prints_same}
use Rattle.bridge_page.specs.inside.Printed.{leaf_path_text}
use Rattle.bridge_page.proofs.TextLemmas.{listed_same}
use Rattle.bridge_page.proofs.lines.put_paths_line.Goals as goal

pub returns : goal.returns
returns g c =
    c.put_text.ensures ⨟ prints_same (ap decimal c.index.ensures) c.put_number.ensures ⨟ c.put_text-2.ensures ⨟ c.put_lifetime.ensures ⨟ c.put_text-3.ensures
    ⨟ prints_same
    (listed_same (leaf_path_text c.args.tcx.now.definitions c.args.method.now) c.as_slice-paths.result.now c.args.returned.now.leaves c.is_empty.result c.is_empty.ensures c.as_slice-paths.ensures)
    (c.put_opening.ensures ⨟ c.put_joined_paths.ensures)
    ⨟ c.put_text-4.ensures
