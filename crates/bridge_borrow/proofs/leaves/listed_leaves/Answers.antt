use Rattle.bridge_borrow.proofs.Leafing.{paths_next}
use Rattle.bridge_borrow.proofs.leaves.listed_leaves.Goals as goal

pub loop-number-preserved : goal.loop-number-preserved
loop-number-preserved c =
    paths_next _ _ c.args.fields.now c.loop-number.number c.loop-number.leaves c.add_leaf.new.leaves _ c.in_ok-add_leaf.ensures c.loop-number.invariant
