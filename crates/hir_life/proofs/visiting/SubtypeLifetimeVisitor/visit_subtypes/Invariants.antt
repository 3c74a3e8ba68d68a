use Rattle.std.proofs.Common.{◌-◌}
use Rattle.hir_life.proofs.Visits.{OnVisit}
use Rattle.hir_life.proofs.visiting.SubtypeLifetimeVisitor.visit_subtypes.Given as goal

abbrev pub invariant-loop-lifetime : goal.invariant-loop-lifetime
invariant-loop-lifetime g l =
    record {
      callable : goal.F-IsAlwaysCallable g l.self-inside.visit_fn;
      on : OnVisit (λ p x q. goal.F-step g p x tt q) l.fn.self l.fn.method_lifetime l.self-inside.walker l.self-inside.visit_fn;
    }

abbrev pub decreases-loop-lifetime : goal.decreases-loop-lifetime
decreases-loop-lifetime g l = l.self-inside.walker.environment.count - l.self-inside.walker.given
