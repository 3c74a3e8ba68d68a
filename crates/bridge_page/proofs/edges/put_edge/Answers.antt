use Rattle.std.proofs.Common.{ap, sym}
use Rattle.bridge_outside.proofs.PrintingLaws.{◌⨟◌, prints_same}
use Rattle.bridge_page.specs.inside.Printed.{input_name, edge_kind_text}
use Rattle.bridge_page.proofs.edges.put_edge.Goals as goal

pub returns-in-Opaque : goal.returns-in-Opaque
returns-in-Opaque g c =
    prints_same (ap (edge_kind_text (input_name c.args.method.now c.args.edge.now.input)) (sym c.in-Opaque.is)) (c.put_text.ensures ⨟ c.put_input.ensures)

pub returns-in-Slice : goal.returns-in-Slice
returns-in-Slice g c =
    prints_same (ap (edge_kind_text (input_name c.args.method.now c.args.edge.now.input)) (sym c.in-Slice.is)) (c.put_text-in-Slice.ensures ⨟ c.put_input-in-Slice.ensures)
