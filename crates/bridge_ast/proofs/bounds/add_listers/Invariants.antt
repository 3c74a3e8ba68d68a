use Rattle.bridge_ast.proofs.BoundsLemmas.{ListFirst}
use Rattle.bridge_ast.proofs.bounds.add_listers.Given as goal

abbrev pub invariant-loop-from : goal.invariant-loop-from
invariant-loop-from l = ListFirst l.side l.nodes l.from l.lists
