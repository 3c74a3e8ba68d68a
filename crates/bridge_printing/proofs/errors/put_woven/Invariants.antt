use Rattle.std.proofs.Common.{take}
use Rattle.hir_reports.specs.Texts.{woven}
use Rattle.bridge_outside.specs.Printing.{Prints}
use Rattle.bridge_printing.proofs.ArgumentLemmas.{told}
use Rattle.bridge_printing.proofs.errors.put_woven.Given as goal

abbrev pub invariant-loop-place : goal.invariant-loop-place
invariant-loop-place g l = Prints (g.K.Sink.state l.fn.sink) l.fn.out (g.K.Sink.state l.sink) l.out (woven (told (take l.place l.pieces)) l.args)
