use Rattle.std.proofs.Common.{sym}
use Rattle.bridge_ast.proofs.TrailLemmas.{no_scope}
use Rattle.bridge_ast.proofs.scopes.parent_of.Goals as goal

pub returns-in-Some : goal.returns-in-Some
returns-in-Some c =
    λ modules m known stands. (known.scope_of c.args.number m c.in-Some.scope.now stands (sym c.in-Some.ensures)).parent

pub returns-in-None : goal.returns-in-None
returns-in-None c =
    λ modules m known stands. absurd (no_scope c.args.scopes.now modules c.args.number m known stands c.in-None.ensures)
