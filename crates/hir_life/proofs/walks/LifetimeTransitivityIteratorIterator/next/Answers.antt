use Rattle.std.proofs.Common.{subst, rules}
use Rattle.hir_life.specs.inside.Queue.{walk_of}
use Rattle.hir_life.specs.Walk.{WalksOn}
use Rattle.hir_life.proofs.Following.{from_first_moves, walks_on, walk_goes}
use Rattle.hir_life.proofs.walks.LifetimeTransitivityIteratorIterator.next.Goals as goal

pub invariant_of-self : goal.invariant_of-self
invariant_of-self c = from_first_moves _ _ _ c.step.ensures.queue c.self.invariant c.step.ensures.moves

pub returns-clause-steps : goal.returns-clause-steps
returns-clause-steps c =
    subst (λ w. WalksOn w c.step.result (walk_of c.step.new.self)) c.self.view_is
    (walks_on _ _ _ c.step.ensures.queue c.self.invariant c.step.ensures.moves)

pub returns-clause-goes : goal.returns-clause-goes
returns-clause-goes c =
    rw (← c.self.view_is) (walk_goes _ (λ w. search rules) _ _ _ c.step.ensures.queue c.step.ensures.moves)
