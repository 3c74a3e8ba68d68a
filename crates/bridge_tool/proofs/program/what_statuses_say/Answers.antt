use Rattle.bridge_tool.proofs.RunLemmas.{follows}
use Rattle.bridge_tool.proofs.program.what_statuses_say.Goals as goal

pub returns : goal.returns
returns c = follows
