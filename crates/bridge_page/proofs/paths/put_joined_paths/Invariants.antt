use Rattle.std.proofs.Common.{take}
use Rattle.std.specs.List.{join_by}
use Rattle.std.specs.Prelude.{codes}
use Rattle.bridge_outside.specs.Printing.{Prints}
use Rattle.bridge_page.specs.inside.Printed.{leaf_path_text}
use Rattle.bridge_page.proofs.paths.put_joined_paths.Given as goal

abbrev pub invariant-loop-place : goal.invariant-loop-place
invariant-loop-place g l =
    Prints (g.K.Sink.state l.fn.sink) l.fn.out (g.K.Sink.state l.sink) l.out (join_by (leaf_path_text l.tcx.definitions l.method) (codes ", ") (take l.place l.paths))
