use Rattle.std.proofs.Common.{◌∙◌}
use Rattle.bridge_decl.specs.declared.lifetimes.Lifetime.TheVariants as written
use Rattle.hir_elide.specs.Phases.{Returning}
use Rattle.hir_elide.specs.Occurrences.{is_borrow, is_counting, used_as}
use Rattle.hir_elide.proofs.BelowLemmas.{one_within}
use Rattle.hir_elide.proofs.NumberingLemmas.{elided_source}
use Rattle.hir_elide.proofs.returns.ReturnLifetimeLowererLowerLifetime.lower_lifetime.Goals as goal

pub returns-in-Anonymous-clause-told : goal.returns-in-Anonymous-clause-told
returns-in-Anonymous-clause-told c = λ s at.
    rw c.in-Anonymous.is (c.elided.ensures.told ∙ elided_source c.args.self.now.source (used_as is_borrow s) (used_as is_counting s) at.source)

pub returns-in-Named-clause-within : goal.returns-in-Named-clause-within
returns-in-Named-clause-within c = λ s at. one_within Returning s (written.Named c.in-Named.name) c.named.result (c.named.ensures.told s at.numbers)

pub returns-in-Anonymous-clause-within : goal.returns-in-Anonymous-clause-within
returns-in-Anonymous-clause-within c = λ s at.
    one_within Returning s written.Anonymous c.elided.result
    (c.elided.ensures.told ∙ elided_source c.args.self.now.source (used_as is_borrow s) (used_as is_counting s) at.source)
