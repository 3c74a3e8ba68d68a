use Rattle.std.proofs.Common.{take}
use Rattle.std.specs.List.{join_by}
use Rattle.std.specs.Prelude.{codes}
use Rattle.bridge_outside.specs.Printing.{Prints}
use Rattle.bridge_printing.proofs.places.put_module.Given as goal

abbrev pub invariant-loop-place : goal.invariant-loop-place
invariant-loop-place g l = Prints (g.K.Sink.state l.fn.sink) l.fn.out (g.K.Sink.state l.sink) l.out (join_by (λ segment. segment) (codes "::") (take l.place l.path))
