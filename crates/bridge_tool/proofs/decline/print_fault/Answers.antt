use Rattle.bridge_outside.proofs.PrintingLaws.{◌⨟◌, prints_same, delivers}
use Rattle.bridge_tool.proofs.decline.print_fault.Goals as goal

pub returns : goal.returns
returns g c =
    delivers _ c.new-out.ensures
    (c.put_text.ensures ⨟ (prints_same c.text.ensures c.put_text-2.ensures ⨟ (c.put_fault_place.ensures ⨟ c.put_text-3.ensures)))
    c.finish.ensures.prints c.finish.ensures.end
