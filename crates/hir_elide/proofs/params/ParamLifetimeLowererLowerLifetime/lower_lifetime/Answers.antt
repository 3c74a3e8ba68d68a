use Rattle.std.proofs.Common.{Ok, refl, subst, sym, ◌∷◌, []}
use Rattle.hir_elide.specs.Occurrences.{Counting, is_borrow, is_counting, used_as}
use Rattle.hir_elide.specs.Phases.{Using, with_uses}
use Rattle.hir_elide.specs.inside.Sources.{IsSource}
use Rattle.hir_elide.specs.inside.Standing.{IsOwn}
use Rattle.hir_elide.proofs.BelowLemmas.{one_within}
use Rattle.hir_elide.proofs.NumberingLemmas.{own_otherwise, source_used}
use Rattle.hir_elide.proofs.params.ParamLifetimeLowererLowerLifetime.lower_lifetime.Goals as goal

pub returns-clause-kept : goal.returns-clause-kept
returns-clause-kept c = λ s at.
    let l = c.args.lifetime.now in
    record {
      numbers = c.in_ok-number.ensures.kept s Counting at.numbers;
      own = subst (λ own. IsOwn own (with_uses (Using Counting) s (l ∷ []))) (sym c.in_ok-number.ensures.own) (own_otherwise c.args.self.now.base.own s Counting (l ∷ []) refl at.own);
      source =
          subst (λ src. IsSource src (used_as is_borrow (with_uses (Using Counting) s (l ∷ []))) (used_as is_counting (with_uses (Using Counting) s (l ∷ []))))
          (sym c.with-self.ensures) (source_used c.args.self.now.source s l c.in_ok-number.number (c.in_ok-number.ensures.told s at.numbers) at.source);
    }

pub returns-clause-within : goal.returns-clause-within
returns-clause-within c = λ s at. one_within (Using Counting) s c.args.lifetime.now (Ok c.in_ok-number.number) (c.in_ok-number.ensures.told s at.numbers)
