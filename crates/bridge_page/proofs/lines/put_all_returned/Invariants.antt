use Rattle.std.proofs.Common.{take}
use Rattle.std.specs.List.{flat_map}
use Rattle.bridge_outside.specs.Printing.{Prints}
use Rattle.bridge_page.specs.inside.Printed.{returned_text}
use Rattle.bridge_page.proofs.lines.put_all_returned.Given as goal

abbrev pub invariant-loop-lifetime : goal.invariant-loop-lifetime
invariant-loop-lifetime g l =
    Prints (g.K.Sink.state l.fn.sink) l.fn.out (g.K.Sink.state l.sink) l.out (flat_map (returned_text l.tcx.definitions l.method) (take l.lifetime-index l.returned))
