use Rattle.std.proofs.Common.{◌<◌, arith, length}
use Rattle.hir_explain.proofs.Growing.{followed_more, grows_through}
use Rattle.hir_explain.proofs.search.Search.follow_all.Goals as goal

pub loop-place-preserved : goal.loop-place-preserved
loop-place-preserved c =
    let within : c.loop-place.place < length c.loop-place.self.reached = omega (arith, c.loop-place-test.true, c.len.ensures.value) in
    record {
      grows = grows_through _ _ _ c.loop-place.invariant.grows c.follow.ensures.grows;
      followed = followed_more _ _ _ c.follow.ensures.grows within c.loop-place.invariant.followed c.follow.ensures.followed;
    }

pub returns-clause-followed : goal.returns-clause-followed
returns-clause-followed c = λ p within.
    c.loop-place.invariant.followed p (omega (arith, within, c.loop-place-test.false, c.len.ensures.value))
