use Rattle.std.proofs.Common.{sym, subst, arith, rules}
use Rattle.std.specs.Iterator.{Drains}
use Rattle.hir_life.specs.Walk.{WalksOn, walk_from}
use Rattle.hir_life.specs.declared.walks.Direction.TheVariants.{Longer}
use Rattle.hir_life.specs.Listing.{ListsLonger}
use Rattle.hir_life.proofs.Answering.{Collected, collected_more, collected_all, longer_count}
use Rattle.hir_life.proofs.Ordering.{drains_same}
use Rattle.hir_life.proofs.environment.LifetimeEnv.longer_of.Goals as goal

pub loop-longer-preserved : goal.loop-longer-preserved
loop-longer-preserved g c =
    record {
      collected =
          subst (λ x. Collected c.args.self.now c.args.lt c.next.new.self x) (sym c.push_reserved.ensures.items)
          (collected_more _ _ _ _ _ _ c.loop-longer.invariant.collected c.in-Some.ensures.steps);
      yielded = search rules;
      room = search rules;
      steps = search rules;
    }

pub returns-clause-list : goal.returns-clause-list
returns-clause-list g c = collected_all _ _ _ _ _ c.loop-longer.invariant.collected c.in-None.ensures.steps

pub returns-clause-same : goal.returns-clause-same
returns-clause-same g c =
    let walk : Drains WalksOn (walk_from c.args.self.now Longer c.args.lt) c.loop-longer.answer.items = search rules in
    λ other run. drains_same _ other _ run walk

pub returns-clause-most : goal.returns-clause-most
returns-clause-most g c =
    let all : ListsLonger c.args.self.now c.args.lt c.loop-longer.answer.items =
    collected_all _ _ _ _ _ c.loop-longer.invariant.collected c.in-None.ensures.steps in
    omega (arith, longer_count _ _ _ all, c.loop-longer.invariant.steps)
