use Rattle.bridge_outside.proofs.PrintingLaws.{◌⨟◌, prints_same}
use Rattle.bridge_page.proofs.TextLemmas.{anonymous_text}
use Rattle.bridge_page.proofs.lines.put_lifetime.Goals as goal

pub returns-in-None : goal.returns-in-None
returns-in-None g c =
    prints_same (anonymous_text c.args.env.now c.args.lifetime c.index.result c.count_names.result c.in-None.ensures.entry c.index.ensures c.count_names.ensures)
    (c.put_text-in-None.ensures ⨟ c.put_number.ensures)
