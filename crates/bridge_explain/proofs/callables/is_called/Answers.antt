use Rattle.bridge_report.specs.InContext.{callable_at}
use Rattle.bridge_report.specs.Places.{shown_place}
use Rattle.bridge_explain.proofs.Finding.{called_at}
use Rattle.bridge_explain.proofs.callables.is_called.Goals as goal

pub returns : goal.returns
returns c =
    called_at (callable_at c.args.tcx.now.definitions c.args.report.now.callable) (shown_place c.place_of.result) c.args.word.now c.is_printed_as.result c.place_of.ensures
    c.is_printed_as.ensures
