use Rattle.std.proofs.Common.{List}
use Rattle.bridge_decl.specs.declared.modules.Module.{Module}
use Rattle.bridge_ast.specs.inside.AliasEnds.{KnowsEnds}
use Rattle.bridge_ast.specs.inside.Scopes.{Knows}
use Rattle.bridge_ast.specs.inside.Trails.{IsModule}
use Rattle.bridge_ast.proofs.AdvanceLemmas.{HasCome}
use Rattle.bridge_ast.proofs.trail.follow.Given as goal

abbrev pub invariant-loop-segment : goal.invariant-loop-segment
invariant-loop-segment l =
    (modules : List Module) → Knows l.scopes modules → KnowsEnds l.ends modules → IsModule modules l.number
    → HasCome modules l.number l.segments l.segment-index l.trail
