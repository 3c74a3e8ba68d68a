use Rattle.bridge_outside.proofs.PrintingLaws.{delivers}
use Rattle.bridge_outside.proofs.printer.print_line.Goals as goal

pub returns : goal.returns
returns g c = delivers _ c.new-out.ensures c.put_line.ensures c.finish.ensures.prints c.finish.ensures.end
