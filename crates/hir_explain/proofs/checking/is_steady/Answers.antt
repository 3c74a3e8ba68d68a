use Rattle.std.proofs.Common.{refl, subst, sym}
use Rattle.std.specs.List.{Contains}
use Rattle.hir_explain.proofs.Tests.{contains_item, contains_taken, no_from, says_no, steady_more}
use Rattle.hir_explain.proofs.checking.is_steady.Goals as goal

pub returns-then-not-has_all : goal.returns-then-not-has_all
returns-then-not-has_all c =
    no_from _
    (λ steady. says_no _ _ c.has_all.ensures c.if-not-has_all.true
    (λ l h. steady l c.lifetime-item.result (contains_item c.args.long.now _ _ c.loop-lifetime-test.true c.lifetime-item.is)
    (subst (λ ls. Contains ls l) c.longer_than.ensures.bounds h)))

pub loop-lifetime-preserved : goal.loop-lifetime-preserved
loop-lifetime-preserved c =
    steady_more c.args.env.now c.args.long.now _ _ c.loop-lifetime-test.true c.lifetime-item.is
    (λ l h. c.has_all.ensures.0 c.if-not-has_all.false l (subst (λ ls. Contains ls l) (sym c.longer_than.ensures.bounds) h))
    c.loop-lifetime.invariant

pub returns : goal.returns
returns c = (
  λ _ l s has. c.loop-lifetime.invariant l s (contains_taken c.args.long.now _ s c.loop-lifetime-test.false has),
  λ _. refl,
)
