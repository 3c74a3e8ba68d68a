use Rattle.std.proofs.Common.{◌≡◌, ◌++◌, take}
use Rattle.bridge_order.specs.Order.{at_depth}
use Rattle.bridge_order.proofs.order.add_at_depth.Given as goal

abbrev pub invariant-loop-number : goal.invariant-loop-number
invariant-loop-number l = l.order.items ≡ l.fn.order.items ++ at_depth l.depth 0 (take l.number l.modules)
