use Rattle.hir_lower.specs.inside.Contexts.{PlacedAs, UsedAs}
use Rattle.hir_lower.proofs.ContextLemmas.{weaker_context}
use Rattle.hir_lower.proofs.from_env.used_context.Goals as goal

pub returns-in-Ok : goal.returns-in-Ok
returns-in-Ok c =
    let used = c.note_usages.new.defs in
    weaker_context (PlacedAs c.args.env.now used) (UsedAs c.args.env.now c.args.defs)
    (λ defs placed. record { used = used; noted = c.in-Ok.ensures.noted; placed = placed }) c.placed_context.result c.placed_context.ensures
