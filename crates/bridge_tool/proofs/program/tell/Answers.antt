use Rattle.bridge_tool.proofs.DeclaredLemmas.{reported_in}
use Rattle.bridge_tool.proofs.program.tell.Goals as goal

pub accept-requires : goal.accept-requires
accept-requires g c = reported_in c.args.input.now c.in-Ok.report c.in-Ok.ensures

pub returns-in-Ok : goal.returns-in-Ok
returns-in-Ok g c = c.accept.ensures c.args.input.now c.in-Ok.ensures
