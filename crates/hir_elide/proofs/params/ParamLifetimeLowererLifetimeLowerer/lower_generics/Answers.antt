use Rattle.hir_elide.proofs.NumberingLemmas.{on_ok_both, source_own}
use Rattle.hir_elide.proofs.params.ParamLifetimeLowererLifetimeLowerer.lower_generics.Goals as goal

pub returns-then-is_self-clause-told : goal.returns-then-is_self-clause-told
returns-then-is_self-clause-told c = λ s at. rw c.if-is_self.true (c.lower_own.ensures.told s at.numbers at.own)

pub returns-then-is_self-clause-kept : goal.returns-then-is_self-clause-kept
returns-then-is_self-clause-kept c = λ s at.
    rw c.if-is_self.true (on_ok_both c.lower_own.result _ _ _ (c.lower_own.ensures.kept s at.numbers at.own) (c.lower_own.ensures.own s at.numbers at.own)
    (λ numbers own. record { numbers = numbers; own = own; source = source_own c.args.self.now.source s _ at.source }))
