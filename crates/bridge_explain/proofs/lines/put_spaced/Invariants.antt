use Rattle.std.proofs.Common.{take}
use Rattle.bridge_outside.specs.Printing.{Prints}
use Rattle.bridge_explain.specs.Lines.{spaced_numbers}
use Rattle.bridge_explain.proofs.lines.put_spaced.Given as goal

abbrev pub invariant-loop-lifetime : goal.invariant-loop-lifetime
invariant-loop-lifetime g l = Prints (g.K.Sink.state l.fn.sink) l.fn.out (g.K.Sink.state l.sink) l.out (spaced_numbers (take l.lifetime-index l.lifetimes))
