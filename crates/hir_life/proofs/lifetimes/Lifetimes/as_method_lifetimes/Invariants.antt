use Rattle.std.proofs.Common.{◌≡◌, take}
use Rattle.hir_life.specs.Substitution.{subst_each}
use Rattle.hir_life.proofs.lifetimes.Lifetimes.as_method_lifetimes.Given as goal

abbrev pub invariant-loop-lifetime : goal.invariant-loop-lifetime
invariant-loop-lifetime l = l.lifetimes ≡ subst_each (take l.lifetime-index l.lifetime-items) l.method_lifetimes
