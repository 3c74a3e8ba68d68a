use Rattle.std.proofs.Common.{◌≡◌}
use Rattle.hir_life.specs.Substitution.{identity}
use Rattle.hir_life.proofs.environment.LifetimeEnv.lifetimes.Given as goal

abbrev pub invariant-loop-number : goal.invariant-loop-number
invariant-loop-number l = l.lifetimes ≡ identity l.number
