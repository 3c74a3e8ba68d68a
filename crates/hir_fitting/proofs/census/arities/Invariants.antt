use Rattle.std.proofs.Common.{◌≡◌, map, take}
use Rattle.hir_fitting.proofs.census.arities.Given as goal

abbrev pub invariant-loop-def : goal.invariant-loop-def
invariant-loop-def g l = l.counts ≡ map g.D.TakesLifetimes.arity_of (take l.def-index l.defs)
