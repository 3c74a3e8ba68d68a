use Rattle.hir_life.proofs.Flagging.{flags_more}
use Rattle.hir_life.proofs.environment.LifetimeEnv.outliving_flags.Goals as goal

pub loop-longer-preserved : goal.loop-longer-preserved
loop-longer-preserved c =
    rw c.index.ensures (flags_more _ _ _ _ _ c.in-Some.longer c.loop-longer.invariant c.in-Some.ensures.steps)
