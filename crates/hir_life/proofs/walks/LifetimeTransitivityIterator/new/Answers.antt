use Rattle.std.proofs.Common.{◌≡◌, [], ◌∙◌, ap}
use Rattle.hir_life.specs.Walk.{walk_from}
use Rattle.hir_life.proofs.Following.{from_first_begin, begin_walk}
use Rattle.hir_life.proofs.walks.LifetimeTransitivityIterator.new.Goals as goal

pub invariant_of-result : goal.invariant_of-result
invariant_of-result c =
    let none : c.in_ok-walker.walker.reached ≡ [] = ap (λ q. q.reached) c.in_ok-walker.ensures.walk in
    from_first_begin _ _ _ none c.begin.ensures.begins

pub returns-clause-walk : goal.returns-clause-walk
returns-clause-walk c =
    let none : c.in_ok-walker.walker.reached ≡ [] = ap (λ q. q.reached) c.in_ok-walker.ensures.walk in
    begin_walk _ _ _ none c.begin.ensures.begins (ap (λ q. q.given) c.in_ok-walker.ensures.walk)
    ∙ ap (λ q. walk_from q.environment q.direction c.args.start) c.in_ok-walker.ensures.walk
