use Rattle.bridge_tool.proofs.program.explain_read.Goals as goal

pub returns-in-Err : goal.returns-in-Err
returns-in-Err g c = c.decline.ensures.explain c.args.bytes.now c.in-Err.ensures.told c.in-Err.ensures.refused c.args.question.now
