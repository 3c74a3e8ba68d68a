use Rattle.std.proofs.Common.{sym, subst}
use Rattle.bridge_ast.specs.inside.Searches.{IsSearch}
use Rattle.bridge_ast.proofs.SearchLemmas.{search_starts}
use Rattle.bridge_ast.proofs.alias_ends.ends_of.Goals as goal

pub loop-frame-init : goal.loop-frame-init
loop-frame-init c = λ known.
    subst (IsSearch c.args.modules.now c.new.result c.in_ok-unbegun.unbegun) (sym c.new-2.ensures.items)
    (search_starts c.args.modules.now c.new.result c.in_ok-unbegun.unbegun c.new.ensures.empty
    (λ alias has. (c.in_ok-unbegun.ensures alias.0 alias.1).0 has) (λ alias is_alias.
    (c.in_ok-unbegun.ensures alias.0 alias.1).1 is_alias))

pub loop-frame-preserved : goal.loop-frame-preserved
loop-frame-preserved c =
    λ known. c.in_ok-step.ensures.searches known (c.in-Some.ensures.begun c.args.modules.now (c.loop-frame.invariant known))
