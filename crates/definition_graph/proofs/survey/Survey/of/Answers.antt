use Rattle.std.proofs.Common.{sym, subst}
use Rattle.definition_graph.specs.Surveying.{IsReverseTopological}
use Rattle.definition_graph.proofs.Surveyed.{components_order}
use Rattle.definition_graph.proofs.survey.Survey.of.Goals as goal

pub node_depths-requires-clause-order : goal.node_depths-requires-clause-order
node_depths-requires-clause-order g c =
    subst (λ xs. IsReverseTopological c.args.graph.now xs) (sym c.deref.ensures.value)
    (components_order c.args.graph.now _ _ c.in_ok-components.ensures.components)

pub returns-clause-order : goal.returns-clause-order
returns-clause-order g c = components_order c.args.graph.now _ _ c.in_ok-components.ensures.components
