use Rattle.hir_context.specs.Listing.{AreDefinitions}
use Rattle.hir_lower.specs.inside.Contexts.{PlacedAs}
use Rattle.hir_lower.proofs.ContextLemmas.{weaker_context}
use Rattle.hir_lower.proofs.from_env.placed_context.Goals as goal

pub returns-in-Ok : goal.returns-in-Ok
returns-in-Ok c =
    weaker_context (AreDefinitions c.in-Ok.parts) (PlacedAs c.args.env.now c.args.defs)
    (λ defs lists. record { parts = c.in-Ok.parts; are = c.in-Ok.ensures; lists = lists }) c.context_of.result c.context_of.ensures
