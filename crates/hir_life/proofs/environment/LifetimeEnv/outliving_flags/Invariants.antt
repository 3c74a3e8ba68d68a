use Rattle.hir_life.proofs.Flagging.{FlagsGiven}
use Rattle.hir_life.proofs.environment.LifetimeEnv.outliving_flags.Given as goal

abbrev pub invariant-loop-longer : goal.invariant-loop-longer
invariant-loop-longer l = FlagsGiven l.self l.fn.lt l.longer-iterator l.flags.items
