use Rattle.bridge_outside.proofs.PrintingLaws.{prints_held}
use Rattle.bridge_outside.proofs.printer.put.Goals as goal

pub returns-then-is_none : goal.returns-then-is_none
returns-then-is_none g c = prints_held (cc c.if-is_none.ensures) c.hold.ensures.held c.hold.ensures.fault
