use Rattle.bridge_ast.proofs.SearchLemmas.{search_circled_at, search_waits_at}
use Rattle.bridge_ast.proofs.alias_ends.wait_for.Goals as goal

pub returns-in_ok-push-2-clause-waits : goal.returns-in_ok-push-2-clause-waits
returns-in_ok-push-2-clause-waits c = λ modules search waiting.
    let old = c.args.search.now in
    search_waits_at modules old.ends old.unbegun c.remove.new.self old.stack.items c.push.new.self.items
    c.push-then-remove.new.self.items c.args.waiting c.begin.result c.args.next search waiting c.begin.ensures.alias
    (c.begin.ensures.frame modules) c.remove.ensures.updates.0 c.in_ok-push.ensures.items c.in_ok-push-2.ensures.items

pub returns-else-remove-clause-waits : goal.returns-else-remove-clause-waits
returns-else-remove-clause-waits c = λ modules search waiting.
    let old = c.args.search.now in
    search_circled_at modules old.ends old.unbegun c.remove.new.self old.stack.items c.clear.new.self.items c.args.waiting
    c.args.next c.remove.result search waiting c.remove.ensures.test c.if-remove.false c.remove.ensures.unchanged
    c.clear.ensures.items
