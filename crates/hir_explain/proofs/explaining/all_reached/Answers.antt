use Rattle.std.proofs.Common.{◌<◌, ◌∙◌, arith}
use Rattle.std.specs.List.{Contains}
use Rattle.hir_explain.proofs.Gathering.{gathered_more, gathered_skip}
use Rattle.hir_explain.proofs.Tests.{says_no}
use Rattle.hir_explain.proofs.explaining.all_reached.Goals as goal
use Rattle.hir_explain.proofs.explaining.all_reached.Goals.{then-is_reached+in_ok-push, else-is_reached}

pub loop-number-preserved : goal.loop-number-preserved
loop-number-preserved c =
    let below : c.loop-number.number < c.args.env.now.count =
    omega (arith, c.loop-number-test.true, c.num_lifetimes-number-end.ensures.value) in
    elim c.if-is_reached.branch [
      | then-is_reached+in_ok-push w ↦
          gathered_more _ _ _ _ _ _ c.loop-number.invariant c.new-lifetime.ensures below
          (c.is_reached.ensures.0 w.if-is_reached.true) (w.list-is ∙ w.in_ok-push.ensures.ok)
      | else-is_reached w ↦
          gathered_skip _ _ _ _ _ _ c.loop-number.invariant c.new-lifetime.ensures
          (says_no _ (Contains c.args.search.now.reached c.new-lifetime.result) c.is_reached.ensures w.if-is_reached.false) w.list-is
    ]

pub returns-clause-list : goal.returns-clause-list
returns-clause-list c = λ l below. (
  λ h. ((c.loop-number.invariant.has l).0 h).1,
  λ h. (c.loop-number.invariant.has l).1 (omega (arith, below, c.loop-number-test.false, c.num_lifetimes-number-end.ensures.value), h),
)
