use Rattle.std.proofs.Common.{subst}
use Rattle.bridge_ast.specs.inside.Scopes.{ArePaths}
use Rattle.bridge_ast.specs.inside.Fitting.{FitInOrder}
use Rattle.bridge_ast.proofs.PathNameLemmas.{named_or_not, named_once}
use Rattle.bridge_ast.proofs.TrailLemmas.{within_module}
use Rattle.bridge_ast.proofs.environment.Env.names_as_in_the_reference.Goals as goal

pub returns-clause-once : goal.returns-clause-once
returns-clause-once c =
    let modules = c.args.self.now in
    let are = subst ArePaths c.self.view_is c.self.invariant.known.paths in
    let sound = subst FitInOrder c.self.view_is c.self.invariant.sound in
    λ number path one other names also. named_once modules are sound number path one other names also

pub returns-clause-decided : goal.returns-clause-decided
returns-clause-decided c =
    let modules = c.args.self.now in
    let are = subst ArePaths c.self.view_is c.self.invariant.known.paths in
    let sound = subst FitInOrder c.self.view_is c.self.invariant.sound in
    λ number path within. named_or_not modules are sound number path (within_module modules number within)
