use Rattle.std.proofs.Common.{arith}
use Rattle.hir_life.proofs.Marking.{marks_room, marks_more, reaches_new, flag_read}
use Rattle.hir_life.proofs.reaching.reach.Goals as goal

pub push_reserved-requires : goal.push_reserved-requires
push_reserved-requires c =
    omega (
      arith,
      marks_room _ _ c.args.lifetime c.requires.marks c.requires.within
          (flag_read c.args.reached.now.items c.args.lifetime _ c.if-not-index.true c.index.ensures),
    )

pub returns-then-not-index-clause-marks : goal.returns-then-not-index-clause-marks
returns-then-not-index-clause-marks c =
    rw c.push_reserved.ensures.items
    (marks_more _ _ c.args.lifetime c.requires.marks c.requires.within
    (flag_read c.args.reached.now.items c.args.lifetime _ c.if-not-index.true c.index.ensures))

pub returns-then-not-index-clause-reaches : goal.returns-then-not-index-clause-reaches
returns-then-not-index-clause-reaches c =
    rw c.push_reserved.ensures.items (reaches_new c.args.order.now.items c.args.lifetime)
