use Rattle.bridge_page.proofs.WalkLemmas.{WalkedSoFar}
use Rattle.bridge_page.proofs.paths.put_fields.Given as goal

abbrev pub invariant-loop-number : goal.invariant-loop-number
invariant-loop-number g l =
    WalkedSoFar (g.K.Sink.state l.fn.sink) l.fn.out (g.K.Sink.state l.sink) l.out l.tcx.definitions l.fn.start l.inside l.fields l.number-index
