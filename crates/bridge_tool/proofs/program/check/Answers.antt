use Rattle.bridge_tool.proofs.RunLemmas.{printed_answers}
use Rattle.bridge_tool.proofs.program.check.Goals as goal

pub returns-in-Ok : goal.returns-in-Ok
returns-in-Ok g c = printed_answers c.args.bytes.now c.in-Ok.input _ _ c.tell.result c.in-Ok.ensures.spelled c.tell.ensures

pub returns-in-Err : goal.returns-in-Err
returns-in-Err g c = c.decline.ensures.check c.args.bytes.now c.in-Err.ensures.told c.in-Err.ensures.refused
