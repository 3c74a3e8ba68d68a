use Rattle.std.proofs.Common.{subst, sym}
use Rattle.bridge_ast.specs.inside.Scopes.{Knows}
use Rattle.bridge_ast.proofs.ScopeLemmas.{around_by_name}
use Rattle.bridge_ast.proofs.environment.Env.parent.Goals as goal

pub returns : goal.returns
returns c =
    let known = subst (λ modules. Knows c.self.inside.scopes modules) c.self.view_is c.self.invariant.known in
    let lent = subst (λ scopes. Knows scopes c.args.self.now) (sym c.as_slice.ensures) known in
    λ m stands. around_by_name c.args.self.now c.args.number m c.parent_of.result stands
    (c.parent_of.ensures c.args.self.now m lent stands)
