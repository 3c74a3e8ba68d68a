use Rattle.bridge_outside.proofs.PrintingLaws.{delivers}
use Rattle.bridge_explain.proofs.lines.print_explanation.Goals as goal

pub returns : goal.returns
returns g c = delivers _ c.new-out.ensures c.put_explanation.ensures c.finish.ensures.prints c.finish.ensures.end
