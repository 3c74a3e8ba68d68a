use Rattle.hir_life.specs.Substitution.{AreBelow}
use Rattle.hir_life_tests.proofs.tests.explaining.carried_of.Given as goal

abbrev pub invariant-loop-number : goal.invariant-loop-number
invariant-loop-number l = AreBelow l.env.count l.carried
