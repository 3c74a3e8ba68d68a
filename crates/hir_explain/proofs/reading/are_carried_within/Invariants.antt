use Rattle.std.proofs.Common.{take}
use Rattle.hir_life.specs.Substitution.{AreBelow}
use Rattle.hir_explain.proofs.reading.are_carried_within.Given as goal

abbrev pub invariant-loop-lifetime : goal.invariant-loop-lifetime
invariant-loop-lifetime l = AreBelow l.env.count (take l.lifetime-index l.carried)
