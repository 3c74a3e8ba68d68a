use Rattle.std.proofs.Common.{rules}
use Rattle.hir_life.proofs.Substituting.{identity_more}
use Rattle.hir_life.proofs.environment.LifetimeEnv.lifetimes.Goals as goal

pub loop-number-preserved : goal.loop-number-preserved
loop-number-preserved c =
    let more = identity_more c.loop-number.number in
    search rules
