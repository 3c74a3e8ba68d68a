use Rattle.bridge_outside.proofs.PrintingLaws.{prints_nothing}
use Rattle.bridge_tool.proofs.decline.put_fault_place.Goals as goal

pub returns-in-NotJson : goal.returns-in-NotJson
returns-in-NotJson g c = rw c.in-NotJson.is prints_nothing
