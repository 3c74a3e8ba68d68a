use Rattle.std.proofs.Common.{arith, rules}
use Rattle.hir_life.specs.Environment.{followed}
use Rattle.hir_life.proofs.Following.{closed_start, length_more}
use Rattle.hir_life.proofs.walker.Walker.begin.Goals as goal

pub invariant_of-self : goal.invariant_of-self
invariant_of-self c =
    record {
      room = search rules;
      flags = search rules;
      marks = c.reach.ensures.marks;
      given_reached = omega (arith, c.self.invariant.given_reached, length_more _ _ _ c.reach.ensures.reaches);
      closed =
          closed_start (followed c.self.inside.env.now c.self.inside.direction) _ _ _ _ c.self.invariant.given_reached
          c.self.invariant.closed c.reach.ensures.reaches;
    }
