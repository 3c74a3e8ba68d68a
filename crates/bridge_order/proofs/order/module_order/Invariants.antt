use Rattle.std.proofs.Common.{◌≡◌}
use Rattle.bridge_order.specs.Order.{shallower}
use Rattle.bridge_order.proofs.order.module_order.Given as goal

abbrev pub invariant-loop-depth : goal.invariant-loop-depth
invariant-loop-depth l = l.order.items ≡ shallower l.depth l.modules
