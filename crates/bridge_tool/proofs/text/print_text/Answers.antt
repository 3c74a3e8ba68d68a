use Rattle.bridge_outside.proofs.PrintingLaws.{delivers}
use Rattle.bridge_tool.proofs.text.print_text.Goals as goal

pub returns : goal.returns
returns g c = delivers _ c.new-out.ensures c.put_text.ensures c.finish.ensures.prints c.finish.ensures.end
