use Rattle.std.proofs.Common.{inl, inr, length, arith, below_more}
use Rattle.std.proofs.lemmas.Bool.{cases_lt}
use Rattle.hir_life.proofs.Listing.{none_past}
use Rattle.hir_life_tests.proofs.tests.sound.all_mirrored.Goals as goal

pub loop-at-preserved : goal.loop-at-preserved
loop-at-preserved c =
    below_more _ _ c.loop-at.invariant
    (λ m h. (c.mirrored_at.ensures.named c.if-not-mirrored_at.false m h, c.mirrored_at.ensures.back c.if-not-mirrored_at.false m h))

pub returns-clause-named : goal.returns-clause-named
returns-clause-named c = λ _ at l h.
    elim (cases_lt at (length c.args.nodes.now)) [
      | inl within ↦ (c.loop-at.invariant at (omega arith) l h).0
      | inr past ↦ absurd (none_past c.args.nodes.now c.args.there at l past h)
    ]

pub returns-clause-back : goal.returns-clause-back
returns-clause-back c = λ _ at l h.
    elim (cases_lt at (length c.args.nodes.now)) [
      | inl within ↦ (c.loop-at.invariant at (omega arith) l h).1
      | inr past ↦ absurd (none_past c.args.nodes.now c.args.there at l past h)
    ]
