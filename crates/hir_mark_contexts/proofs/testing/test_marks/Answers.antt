use Rattle.hir_reports.proofs.StoreLaws.{added_nothing, added_step}
use Rattle.hir_mark_contexts.specs.Told.{misplaced_mark}
use Rattle.hir_mark_contexts.proofs.testing.test_marks.Goals as goal

pub loop-mark-init : goal.loop-mark-init
loop-mark-init c = (added_nothing c.args.errors.now, λ _ keeps. keeps)

pub loop-mark-preserved : goal.loop-mark-preserved
loop-mark-preserved c = (
  added_step (misplaced_mark c.args.context c.args.attrs.now) c.args.errors.now c.loop-mark.errors _ c.args.marks.now c.loop-mark.mark-index _
      c.loop-mark-test.true c.loop-mark.invariant.0 c.in_ok-test_mark.ensures.told,
  λ earlier keeps. c.in_ok-test_mark.ensures.kept earlier (c.loop-mark.invariant.1 earlier keeps),
)

pub returns-in_err-test_mark-clause-kept : goal.returns-in_err-test_mark-clause-kept
returns-in_err-test_mark-clause-kept c = λ earlier keeps. c.in_err-test_mark.ensures.kept earlier (c.loop-mark.invariant.1 earlier keeps)
