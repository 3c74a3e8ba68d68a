use Rattle.std.proofs.Common.{ap, ◌∙◌, subst}
use Rattle.std.specs.Prelude.{option_and_then}
use Rattle.bridge_ast.specs.inside.Scopes.{ArePaths}
use Rattle.bridge_ast.specs.inside.Fitting.{FitInOrder}
use Rattle.bridge_ast.specs.Types.{item_of, trait_seen}
use Rattle.bridge_ast.specs.inside.Resolution.{as_trait}
use Rattle.bridge_ast.proofs.TypeNameLemmas.{trait_told, no_trait_told}
use Rattle.bridge_ast.proofs.TrailLemmas.{within_module}
use Rattle.bridge_ast.proofs.environment.Env.resolve_trait.Goals as goal

pub returns-in_err-place-clause-named : goal.returns-in_err-place-clause-named
returns-in_err-place-clause-named c =
    let modules = c.args.self.now in
    let number = c.args.in_module in
    let are = subst ArePaths c.self.view_is c.self.invariant.known.paths in
    let sound = subst FitInOrder c.self.view_is c.self.invariant.sound in
    let computed = ap trait_seen c.from_residual.ensures ∙ ap (option_and_then (λ place. option_and_then (as_trait place) (item_of modules place))) c.in_err-place.ensures in
    trait_told modules are sound number c.args.path.now.segments (within_module modules number c.requires) c.from_residual.result computed

pub returns-in_err-place-clause-nothing : goal.returns-in_err-place-clause-nothing
returns-in_err-place-clause-nothing c =
    let modules = c.args.self.now in
    let number = c.args.in_module in
    let are = subst ArePaths c.self.view_is c.self.invariant.known.paths in
    let sound = subst FitInOrder c.self.view_is c.self.invariant.sound in
    let computed = ap trait_seen c.from_residual.ensures ∙ ap (option_and_then (λ place. option_and_then (as_trait place) (item_of modules place))) c.in_err-place.ensures in
    no_trait_told modules are sound number c.args.path.now.segments (within_module modules number c.requires) c.from_residual.result computed

pub returns-clause-named : goal.returns-clause-named
returns-clause-named c =
    let modules = c.args.self.now in
    let number = c.args.in_module in
    let are = subst ArePaths c.self.view_is c.self.invariant.known.paths in
    let sound = subst FitInOrder c.self.view_is c.self.invariant.sound in
    let computed =
    (c.trait_at.ensures ∙ ap (λ ms. option_and_then (as_trait c.in_ok-place.place) (item_of ms c.in_ok-place.place)) (c.as_slice-modules.ensures ∙ c.self.view_is)
    ∙ ap (option_and_then (λ place. option_and_then (as_trait place) (item_of modules place))) c.in_ok-place.ensures)
    in
    trait_told modules are sound number c.args.path.now.segments (within_module modules number c.requires) c.trait_at.result computed

pub returns-clause-nothing : goal.returns-clause-nothing
returns-clause-nothing c =
    let modules = c.args.self.now in
    let number = c.args.in_module in
    let are = subst ArePaths c.self.view_is c.self.invariant.known.paths in
    let sound = subst FitInOrder c.self.view_is c.self.invariant.sound in
    let computed =
    (c.trait_at.ensures ∙ ap (λ ms. option_and_then (as_trait c.in_ok-place.place) (item_of ms c.in_ok-place.place)) (c.as_slice-modules.ensures ∙ c.self.view_is)
    ∙ ap (option_and_then (λ place. option_and_then (as_trait place) (item_of modules place))) c.in_ok-place.ensures)
    in
    no_trait_told modules are sound number c.args.path.now.segments (within_module modules number c.requires) c.trait_at.result computed
