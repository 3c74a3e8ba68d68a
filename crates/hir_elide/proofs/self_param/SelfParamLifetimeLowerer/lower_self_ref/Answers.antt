use Rattle.std.proofs.Common.{Ok}
use Rattle.hir_elide.specs.Occurrences.{Borrow}
use Rattle.hir_elide.specs.Phases.{Using}
use Rattle.hir_elide.proofs.BelowLemmas.{one_within}
use Rattle.hir_elide.proofs.self_param.SelfParamLifetimeLowerer.lower_self_ref.Goals as goal

pub returns-clause-within : goal.returns-clause-within
returns-clause-within c = λ s at. one_within (Using Borrow) s c.args.lifetime.now (Ok c.in_ok-number.number) (c.in_ok-number.ensures.told s at.numbers)
