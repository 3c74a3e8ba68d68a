use Rattle.bridge_ast.specs.inside.Scopes.{Knows}
use Rattle.bridge_ast.specs.inside.Searches.{IsSearch, size_of}
use Rattle.bridge_ast.proofs.alias_ends.ends_of.Given as goal

abbrev pub invariant-loop-frame : goal.invariant-loop-frame
invariant-loop-frame l = Knows l.scopes l.modules → IsSearch l.modules l.search.ends l.search.unbegun l.search.stack.items

-- each turn leaves less to do
abbrev pub decreases-loop-frame : goal.decreases-loop-frame
decreases-loop-frame l = size_of l.search
