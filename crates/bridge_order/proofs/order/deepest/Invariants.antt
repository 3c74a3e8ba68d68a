use Rattle.std.proofs.Common.{◌≡◌, take}
use Rattle.bridge_order.specs.Order.{deepest}
use Rattle.bridge_order.proofs.order.deepest.Given as goal

abbrev pub invariant-loop-module : goal.invariant-loop-module
invariant-loop-module l = l.most ≡ deepest (take l.module-index l.modules)
