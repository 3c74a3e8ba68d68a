use Rattle.std.proofs.Common.{ap, ◌∙◌}
use Rattle.hir_validation.specs.Lifetimes.{is_returned}
use Rattle.hir_validation.specs.inside.Seen.{WithReturned}
use Rattle.hir_validation.proofs.returned.ReturnedLifetimes.is_returned.Goals as goal

pub returns : goal.returns
returns c = c.contains.ensures ∙ c.self.invariant c.args.lifetime ∙ ap (λ (it : WithReturned). is_returned it.returned c.args.lifetime) c.self.view_is
