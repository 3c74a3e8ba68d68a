use Rattle.bridge_ast.proofs.FrameLemmas.{frame_begun}
use Rattle.bridge_ast.proofs.alias_ends.begin.Goals as goal

pub returns-clause-frame : goal.returns-clause-frame
returns-clause-frame c = λ modules is_alias. frame_begun modules c.args.alias is_alias
