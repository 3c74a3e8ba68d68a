use Rattle.std.proofs.Common.{◌≡◌, ◌<◌, length, get_or, subst, arith, rules}
use Rattle.std.specs.List.{Contains}
use Rattle.hir_life.specs.Environment.{followed}
use Rattle.hir_life.specs.inside.Queue.{IsQueue}
use Rattle.hir_life.specs.inside.Reaching.{Reaches}
use Rattle.hir_life.specs.inside.Walking.{queue_of}
use Rattle.hir_life.proofs.Following.{bound_within, item_is, reaches_at, closed_step, is_queue, length_more}
use Rattle.hir_life.proofs.walker.Walker.step.Goals as goal

pub reach_all-requires-clause-within : goal.reach_all-requires-clause-within
reach_all-requires-clause-within c = λ k h.
    let bound : k < c.self.inside.env.now.count =
    bound_within _ _ _ k c.direct-bounds.ensures.sound
    (subst (λ x. Contains x k) c.direct-bounds.ensures.bounds h) in
    omega (arith, bound, c.self.invariant.flags)

pub returns-then-self-len-clause-queue : goal.returns-then-self-len-clause-queue
returns-then-self-len-clause-queue c =
    subst (λ q. IsQueue q) c.self.view_is
    (is_queue (queue_of c.self.inside) _ c.self.invariant.marks c.self.invariant.flags c.self.invariant.given_reached c.self.invariant.closed)

pub returns-clause-queue : goal.returns-clause-queue
returns-clause-queue c =
    subst (λ q. IsQueue q) c.self.view_is
    (is_queue (queue_of c.self.inside) _ c.self.invariant.marks c.self.invariant.flags c.self.invariant.given_reached c.self.invariant.closed)

pub invariant_of-self : goal.invariant_of-self
invariant_of-self c =
    let within : c.self.inside.head < length c.self.inside.order.items = search rules in
    let here : c.index-lifetime.result.now ≡ get_or c.self.inside.order.items c.self.inside.head 0 =
    item_is _ _ _ within c.index-lifetime.ensures in
    let direct = followed c.self.inside.env.now c.self.inside.direction in
    let reaches : Reaches c.self.inside.order.items c.reach_all.new.order.items (direct (get_or c.self.inside.order.items c.self.inside.head 0)) =
    reaches_at direct _ _ _ _ _ here c.direct-bounds.ensures.bounds c.reach_all.ensures.reaches in
    record {
      room = search rules;
      flags = search rules;
      marks = c.reach_all.ensures.marks;
      given_reached = omega (arith, within, length_more _ _ _ reaches);
      closed = closed_step direct _ _ _ within c.self.invariant.closed reaches;
    }
