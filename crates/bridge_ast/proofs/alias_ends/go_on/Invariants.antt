use Rattle.bridge_ast.specs.inside.AliasEnds.{AreEnds}
use Rattle.bridge_ast.specs.inside.Scopes.{Knows}
use Rattle.bridge_ast.specs.inside.Searches.{IsFrame}
use Rattle.bridge_ast.proofs.alias_ends.go_on.Given as goal

abbrev pub invariant-loop-position : goal.invariant-loop-position
invariant-loop-position l =
    Knows l.scopes l.modules → AreEnds l.ends l.modules → IsFrame l.modules l.frame
    → IsFrame l.modules (record { alias = l.frame.alias; position = l.position; trail = l.trail })
