use Rattle.hir_borrowing_params.proofs.Beginnings.{starts_at_none, starts_next}
use Rattle.hir_borrowing_params.proofs.starts.starts.Goals as goal

pub loop-key-init : goal.loop-key-init
loop-key-init c = starts_at_none c.args.env.now c.args.keys.now c.new-map.result c.new-map.ensures.empty

pub loop-key-preserved : goal.loop-key-preserved
loop-key-preserved c = starts_next c.args.env.now c.args.keys.now c.loop-key.key-index c.key-item.result c.loop-key.map c.add_start.new.map c.loop-key-test.true c.key-item.is c.loop-key.invariant c.in_ok-add_start.ensures
