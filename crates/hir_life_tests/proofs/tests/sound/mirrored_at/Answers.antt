use Rattle.std.proofs.Common.{◌≡◌, ◌<◌, ◌∙◌, length, get_or, sym, subst, arith, below_more}
use Rattle.std.specs.List.{Contains}
use Rattle.hir_life.specs.Environment.{followed}
use Rattle.hir_life.proofs.Following.{item_is}
use Rattle.hir_life.proofs.Listing.{each_by_place}
use Rattle.hir_life_tests.proofs.tests.sound.mirrored_at.Goals as goal

pub loop-bound-preserved : goal.loop-bound-preserved
loop-bound-preserved c =
    let here : c.index-other.result ≡ get_or c.bounds_at-bound-items.result.now c.loop-bound.bound-index 0 =
    c.index-other.ensures
    ∙ item_is c.bounds_at-bound-items.result.now c.loop-bound.bound-index c.bound-item.result (omega arith) c.bound-item.is in
    below_more _ _ c.loop-bound.invariant (
      subst (λ x. x < length c.args.nodes.now) here (omega arith),
      subst (λ x. Contains (followed (record { bounds = c.args.nodes.now; count = 0 }) c.args.back x) c.args.at) here
          (subst (λ x. Contains x c.args.at) c.bounds_at.ensures (c.has.ensures c.if-not-has.false)),
    )

pub returns-clause-named : goal.returns-clause-named
returns-clause-named c = λ _ l h.
    each_by_place c.bounds_at-bound-items.result.now (λ x. x < length c.args.nodes.now)
    (λ j within. (c.loop-bound.invariant j (omega arith)).0) l
    (subst (λ x. Contains x l) (sym c.bounds_at-bound-items.ensures) h)

pub returns-clause-back : goal.returns-clause-back
returns-clause-back c = λ _ l h.
    each_by_place c.bounds_at-bound-items.result.now
    (λ x. Contains (followed (record { bounds = c.args.nodes.now; count = 0 }) c.args.back x) c.args.at)
    (λ j within. (c.loop-bound.invariant j (omega arith)).1) l
    (subst (λ x. Contains x l) (sym c.bounds_at-bound-items.ensures) h)
