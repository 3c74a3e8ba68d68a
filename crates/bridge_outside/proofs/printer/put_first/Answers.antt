use Rattle.bridge_outside.proofs.PrintingLaws.{prints_stopped}
use Rattle.bridge_outside.proofs.printer.put_first.Goals as goal

pub returns-then-is_some : goal.returns-then-is_some
returns-then-is_some g c = prints_stopped (cc)
