use Rattle.std.proofs.Common.{arith, rules}
use Rattle.hir_life.proofs.Substituting.{range_front}
use Rattle.hir_life.proofs.all_lifetimes.AllLifetimesIterator.next.Goals as goal

pub returns-clause-steps : goal.returns-clause-steps
returns-clause-steps c =
    let front = range_front c.self.inside.next c.self.inside.end (omega (arith, c.self.invariant, c.if-self.false)) in
    search rules

pub returns-clause-goes : goal.returns-clause-goes
returns-clause-goes c =
    let front = range_front c.self.inside.next c.self.inside.end (omega (arith, c.self.invariant, c.if-self.false)) in
    search rules
