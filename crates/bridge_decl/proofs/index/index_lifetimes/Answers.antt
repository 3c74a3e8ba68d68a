use Rattle.std.proofs.Common.{map, take}
use Rattle.bridge_text.proofs.NameIndexLemmas.{with_places, indexes_to, indexes_next}
use Rattle.bridge_decl.proofs.index.index_lifetimes.Goals as goal

pub loop-number-preserved : goal.loop-number-preserved
loop-number-preserved c =
    let names = map (λ node. node.name) (take c.loop-number.number c.as_slice-node-items.result.now) in
    indexes_next (λ node. node.name) c.as_slice-node-items.result.now c.loop-number.number c.node-item.result
    c.loop-number-test.true c.node-item.is c.take_name.new.index
    (c.in_ok-take_name.ensures.taken (with_places 0 names) (indexes_to c.loop-number.index names c.loop-number.invariant))
