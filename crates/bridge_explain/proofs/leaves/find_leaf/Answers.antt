use Rattle.std.proofs.Common.{arith}
use Rattle.bridge_explain.proofs.Finding.{leaf_found, leaf_passed}
use Rattle.bridge_explain.proofs.leaves.find_leaf.Goals as goal

pub returns-in-Some : goal.returns-in-Some
returns-in-Some c =
    leaf_found c.args.leaves.now c.args.word.now c.loop-number.number c.loop-number.invariant (omega (arith, c.loop-number-test.true, c.len-number-end.ensures))
    c.in_ok-carried.field-0 c.in-Some.carried c.in-Some.is c.in_ok-carried.ensures

pub loop-number-preserved : goal.loop-number-preserved
loop-number-preserved c =
    leaf_passed c.args.leaves.now c.args.word.now c.loop-number.number c.loop-number.invariant (omega (arith, c.loop-number-test.true, c.len-number-end.ensures))
    c.in_ok-carried.field-0 c.in-None.is c.in_ok-carried.ensures
