use Rattle.bridge_ast.specs.Types.{NamesType, item_seen}
use Rattle.hir_number.proofs.NamingLemmas.{same_found}
use Rattle.hir_number_slow.proofs.finding.resolved.Goals as goal

pub returns : goal.returns
returns c = λ names is.
    same_found item_seen c.resolve.result (names.type_at c.args.path.now.segments) (NamesType c.args.env.now c.args.number c.args.path.now.segments)
    c.resolve.ensures.named c.resolve.ensures.nothing (is.types c.args.path.now.segments)
