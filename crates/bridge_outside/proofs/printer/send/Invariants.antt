use Rattle.std.proofs.Common.{length, ◌-◌}
use Rattle.bridge_outside.proofs.PrintingLaws.{SentSoFar}
use Rattle.bridge_outside.proofs.printer.send.Given as goal

abbrev pub invariant-loop-done : goal.invariant-loop-done
invariant-loop-done g l = SentSoFar (g.K.Sink.state l.fn.sink) (g.K.Sink.state l.sink) l.piece l.done

abbrev pub decreases-loop-done : goal.decreases-loop-done
decreases-loop-done g l = length l.piece - l.done
