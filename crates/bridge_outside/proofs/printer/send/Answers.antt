use Rattle.bridge_outside.proofs.PrintingLaws.{sent_more}
use Rattle.bridge_outside.proofs.printer.send.Goals as goal

pub loop-done-preserved : goal.loop-done-preserved
loop-done-preserved g c = sent_more c.loop-done.invariant c.split_at.ensures.back c.in-Ok.ensures
