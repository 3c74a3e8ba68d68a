use Rattle.bridge_outside.proofs.PrintingLaws.{◌⨟◌, prints_same}
use Rattle.bridge_printing.proofs.ReportLemmas.{place_same}
use Rattle.bridge_printing.proofs.reports.put_place_line.Goals as goal

pub returns : goal.returns
returns g c =
    c.put_text.ensures ⨟ prints_same (place_same c.args.context.now c.as_slice.ensures c.as_str.ensures c.method_of-method.ensures) c.put_place.ensures
    ⨟ c.put_text-2.ensures
