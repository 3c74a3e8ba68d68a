use Rattle.bridge_outside.proofs.PrintingLaws.{◌⨟◌, prints_same}
use Rattle.bridge_report.specs.InContext.{callable_at}
use Rattle.bridge_report.specs.Places.{shown_place}
use Rattle.bridge_page.proofs.TextLemmas.{line_of}
use Rattle.bridge_page.proofs.callables.put_callable_line.Goals as goal

pub returns : goal.returns
returns g c =
    prints_same (line_of (callable_at c.args.tcx.now.definitions c.args.report.now.callable) (shown_place c.place_of-place.result) c.requires c.place_of-place.ensures)
    (c.put_text.ensures ⨟ c.put_place.ensures ⨟ c.put_text-2.ensures)
