use Rattle.std.proofs.Common.{◌<◌, inl, inr, subst, sym}
use Rattle.std.specs.List.{Contains}
use Rattle.hir_life.specs.declared.walks.Direction.TheVariants.{Longer}
use Rattle.hir_life.proofs.Following.{bound_within}
use Rattle.hir_explain.proofs.Growing.{followed_all, grows_more, reaches_keeps}
use Rattle.hir_explain.proofs.Tests.{contains_item, contains_more, contains_taken}
use Rattle.hir_explain.proofs.search.Search.follow.Goals as goal

pub reach-requires-clause-within : goal.reach-requires-clause-within
reach-requires-clause-within c =
    let below : c.lifetime-item.result < c.args.self.now.environment.count =
    bound_within _ Longer _ _ c.bounds_at-lifetime-items.ensures.sound
    (subst (λ x. Contains x c.lifetime-item.result) c.bounds_at-lifetime-items.ensures.bounds
    (contains_item c.bounds_at-lifetime-items.result.now _ _ c.loop-lifetime-test.true c.lifetime-item.is)) in
    subst (λ e. c.lifetime-item.result < e.count) (sym c.loop-lifetime.invariant.grows.same) below

pub loop-lifetime-preserved : goal.loop-lifetime-preserved
loop-lifetime-preserved c =
    record {
      grows = grows_more _ _ _ _ c.loop-lifetime.invariant.grows c.reach.ensures;
      reached = λ k h.
          elim (contains_more c.bounds_at-lifetime-items.result.now _ _ k c.loop-lifetime-test.true c.lifetime-item.is h) [
            | inl old ↦ reaches_keeps _ _ _ k c.reach.ensures (c.loop-lifetime.invariant.reached k old)
            | inr e ↦ subst (λ x. Contains c.reach.new.self.reached x) e c.reach.ensures.has
          ];
    }

pub returns-clause-followed : goal.returns-clause-followed
returns-clause-followed c =
    followed_all _ _ _ c.bounds_at-lifetime-items.result.now c.loop-lifetime.invariant.grows c.requires c.bounds_at-lifetime-items.ensures.bounds
    (λ k h. c.loop-lifetime.invariant.reached k (contains_taken c.bounds_at-lifetime-items.result.now _ k c.loop-lifetime-test.false h))
