use Rattle.std.proofs.Common.{take}
use Rattle.hir_validation.specs.inside.Direct.{HoldsList}
use Rattle.hir_validation.proofs.direct.set_of.Given as goal

abbrev pub invariant-loop-lifetime : goal.invariant-loop-lifetime
invariant-loop-lifetime l = HoldsList l.set (take l.lifetime-index l.lifetimes)
