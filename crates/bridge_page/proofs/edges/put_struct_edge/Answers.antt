use Rattle.bridge_outside.proofs.PrintingLaws.{◌⨟◌}
use Rattle.bridge_page.proofs.edges.put_struct_edge.Goals as goal

pub returns : goal.returns
returns g c = c.put_text.ensures ⨟ c.put_input.ensures ⨟ c.put_text-2.ensures ⨟ c.put_number.ensures ⨟ c.put_optional.ensures
