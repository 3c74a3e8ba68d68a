use Rattle.std.proofs.Common.{sym, subst}
use Rattle.bridge_ast.specs.inside.Searches.{IsSearch, IsWaiting}
use Rattle.bridge_ast.proofs.SearchLemmas.{search_ended, search_changed, search_stopped, last_frame}
use Rattle.bridge_ast.proofs.alias_ends.step.Goals as goal

pub returns-in_ok-insert-in-Ends-clause-searches : goal.returns-in_ok-insert-in-Ends-clause-searches
returns-in_ok-insert-in-Ends-clause-searches c = λ known search.
    let old = c.args.search.now in
    let told = c.in-Ends.ensures known search.known (last_frame c.args.modules.now old.ends old.unbegun old.stack.items
    c.args.frame search) in
    search_ended c.args.modules.now old.ends c.insert.new.self old.unbegun old.stack.items c.args.frame c.in-Ends.trail search
    told.0 told.1 c.in_ok-insert-in-Ends.ensures.updates.0

pub returns-in-Waits-clause-searches : goal.returns-in-Waits-clause-searches
returns-in-Waits-clause-searches c = λ known search.
    let old = c.args.search.now in
    let told = c.in-Waits.ensures known search.known (last_frame c.args.modules.now old.ends old.unbegun old.stack.items
    c.args.frame search) in
    c.wait_for.ensures.waits c.args.modules.now (search_changed c.args.modules.now old.ends old.unbegun old.stack.items
    c.args.frame c.in-Waits.waiting search told.1 told.0)
    (subst (λ alias. IsWaiting c.args.modules.now old.ends alias c.in-Waits.next) (sym told.1) told.2)

pub returns-in-Stops-clause-searches : goal.returns-in-Stops-clause-searches
returns-in-Stops-clause-searches c = λ known search.
    let old = c.args.search.now in
    let told = c.in-Stops.ensures known search.known (last_frame c.args.modules.now old.ends old.unbegun old.stack.items
    c.args.frame search) in
    subst (IsSearch c.args.modules.now old.ends old.unbegun) (sym c.clear.ensures.items)
    (search_stopped c.args.modules.now old.ends old.unbegun old.stack.items c.args.frame search told)
