use Rattle.std.proofs.Common.{sym, ◌∙◌}
use Rattle.std.proofs.lemmas.List.{append-nil}
use Rattle.bridge_outside.proofs.PrintingLaws.{prints_sent}
use Rattle.bridge_outside.proofs.printer.flush.Goals as goal

pub returns-then-is_none-clause-prints : goal.returns-then-is_none-clause-prints
returns-then-is_none-clause-prints g c =
    prints_sent c.held.result.now c.send-sent.result (c.held.ensures ∙ sym (append-nil _)) (cc c.if-is_none.ensures) c.send-sent.ensures c.settle.ensures
