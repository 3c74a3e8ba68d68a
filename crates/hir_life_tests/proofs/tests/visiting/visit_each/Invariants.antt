use Rattle.hir_life_tests.proofs.tests.visiting.visit_each.Given as goal

abbrev pub invariant-loop-start : goal.invariant-loop-start
invariant-loop-start g l = goal.F-IsAlwaysCallable g l.visitor.visit_fn
