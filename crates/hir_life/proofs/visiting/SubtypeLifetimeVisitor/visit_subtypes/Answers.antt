use Rattle.std.proofs.Common.{◌<◌, length, subst, rules}
use Rattle.hir_life.specs.Environment.{IsSound}
use Rattle.hir_life.proofs.Visits.{visits_none, visit_begins, visit_steps, visit_ends, visit_over, visit_nearer}
use Rattle.hir_life.proofs.visiting.SubtypeLifetimeVisitor.visit_subtypes.Goals as goal

pub returns-then-not-is_named-clause-visits : goal.returns-then-not-is_named-clause-visits
returns-then-not-is_named-clause-visits g c = visits_none _ _ _ (search rules)

pub loop-lifetime-init : goal.loop-lifetime-init
loop-lifetime-init g c =
    let sound : IsSound c.self.inside.walker.environment =
    subst (λ e. IsSound e) c.env.ensures c.is_named.ensures.sound in
    let named : c.args.method_lifetime < length c.self.inside.walker.environment.bounds = search rules in
    record {
      callable = search rules;
      on = visit_begins _ _ _ _ _ _ c.self.view_is c.self.invariant sound named c.begin.ensures.begins;
    }

pub loop-lifetime-smaller : goal.loop-lifetime-smaller
loop-lifetime-smaller g c = visit_nearer _ _ _ c.step.ensures.queue c.in-Some.ensures.moves

pub loop-lifetime-preserved : goal.loop-lifetime-preserved
loop-lifetime-preserved g c =
    record {
      callable = c.visit.ensures.callable;
      on = visit_steps _ _ _ _ _ _ _ _ c.loop-lifetime.invariant.on c.in-Some.ensures.moves c.visit.ensures.called;
    }

pub invariant_of-self : goal.invariant_of-self
invariant_of-self g c = visit_over _ _ _ _ _ _ c.loop-lifetime.invariant.on c.in_default.ensures.moves

pub returns-clause-visits : goal.returns-clause-visits
returns-clause-visits g c =
    visit_ends _ _ _ _ _ _ c.loop-lifetime.invariant.on c.step.ensures.queue c.in_default.ensures.moves
