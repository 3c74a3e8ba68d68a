use Rattle.bridge_borrow.proofs.Reporting.{under_next}
use Rattle.bridge_borrow.proofs.callables.returned_lifetimes.Goals as goal

pub loop-lifetime-preserved : goal.loop-lifetime-preserved
loop-lifetime-preserved c =
    under_next c.args.method.now c.args.fields.now c.args.lifetimes.now.keys c.loop-lifetime.lifetime-iterator c.next.new.self c.in-Some.lifetime.now
    c.loop-lifetime.returned c.push.new.self c.in_ok-returned_lifetime.field-0 c.in-Some.ensures.steps c.in_ok-push.ensures.ok
    c.in_ok-returned_lifetime.ensures c.loop-lifetime.invariant
