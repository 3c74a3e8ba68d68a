use Rattle.bridge_outside.proofs.PrintingLaws.{◌⨟◌, prints_same}
use Rattle.bridge_page.specs.inside.Printed.{report_edge_text}
use Rattle.bridge_page.proofs.TextLemmas.{listed_same}
use Rattle.bridge_page.proofs.lines.put_edges_line.Goals as goal

pub returns : goal.returns
returns g c =
    c.put_text.ensures
    ⨟ prints_same (listed_same (report_edge_text c.args.method.now) c.as_slice-edges.result.now c.args.returned.now.edges c.is_empty.result c.is_empty.ensures c.as_slice-edges.ensures)
    (c.put_opening.ensures ⨟ c.put_joined_edges.ensures)
    ⨟ c.put_text-2.ensures
