use Rattle.hir_elide.specs.Occurrences.{Own}
use Rattle.hir_elide.specs.Phases.{Using}
use Rattle.hir_elide.proofs.BelowLemmas.{one_within}
use Rattle.hir_elide.proofs.numbering.NumberingLowerLifetime.lower_lifetime.Goals as goal

pub returns-clause-within : goal.returns-clause-within
returns-clause-within c = λ s at. one_within (Using Own) s c.args.lifetime.now c.number.result (c.number.ensures.told s at)
