use Rattle.bridge_ast.proofs.BoundsLemmas.{adds_none, adds_more}
use Rattle.bridge_ast.proofs.bounds.add_to_each.Goals as goal

pub loop-place-init : goal.loop-place-init
loop-place-init c = adds_none c.args.lists.now c.args.number

pub loop-place-preserved : goal.loop-place-preserved
loop-place-preserved c =
    adds_more c.args.lists.now c.loop-place.lists c.add_to.new.lists c.args.places.now c.args.number c.loop-place.place-index
    c.loop-place-test.true c.loop-place.invariant c.in_ok-add_to.ensures
