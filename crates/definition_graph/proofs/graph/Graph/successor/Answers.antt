use Rattle.std.proofs.Common.{◌≡◌, arith, get_or, subst}
use Rattle.std.proofs.lemmas.List.Elements.{Contains-get_or}
use Rattle.std.proofs.lemmas.Grind.{common_steps}
use Rattle.definition_graph.specs.Reaching.{successors, IsGraph}
use Rattle.definition_graph.proofs.graph.Graph.successor.Goals as goal

pub returns-clause-within : goal.returns-clause-within
returns-clause-within c =
    let sound : IsGraph c.args.self.now = subst (λ g. IsGraph g) c.self.view_is c.self.invariant in
    let value : c.index-2.result.now ≡ get_or (successors c.args.self.now c.args.node) c.args.place 0 = grind (arith, common_steps) in
    omega (arith, value, sound c.args.node _ (Contains-get_or (successors c.args.self.now c.args.node) c.args.place 0 c.requires.place))
