use Rattle.std.proofs.Common.{sym, Some, None}
use Rattle.bridge_ast.proofs.TrailLemmas.{by_super, no_scope}
use Rattle.bridge_ast.proofs.trail.next_super.Goals as goal

pub returns-in-Some-parent : goal.returns-in-Some-parent
returns-in-Some-parent c =
    λ modules known (m, stands). by_super c.args.scopes.now modules c.args.number m c.in-Some.scope.now
    (Some c.in-Some-parent.parent) known stands c.in-Some.ensures (sym c.in-Some-parent.is)

pub returns-in-None-parent : goal.returns-in-None-parent
returns-in-None-parent c =
    λ modules known (m, stands). by_super c.args.scopes.now modules c.args.number m c.in-Some.scope.now None known stands
    c.in-Some.ensures (sym c.in-None-parent.is)

pub returns-in-None : goal.returns-in-None
returns-in-None c =
    λ modules known (m, stands). absurd (no_scope c.args.scopes.now modules c.args.number m known stands c.in-None.ensures)
