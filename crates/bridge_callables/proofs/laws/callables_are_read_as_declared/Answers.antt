use Rattle.bridge_callables.proofs.ContextLemmas.{callables_same}
use Rattle.bridge_callables.proofs.laws.callables_are_read_as_declared.Goals as goal

pub returns : goal.returns
returns c = λ it defs is_catalog stands. callables_same it defs is_catalog stands
