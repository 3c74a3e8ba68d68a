use Rattle.std.proofs.Common.{◌≡◌, take}
use Rattle.hir_life.proofs.environment.LifetimeEnv.try_clone.Given as goal

abbrev pub invariant-loop-node : goal.invariant-loop-node
invariant-loop-node l = l.nodes ≡ take l.node-index l.node-items
