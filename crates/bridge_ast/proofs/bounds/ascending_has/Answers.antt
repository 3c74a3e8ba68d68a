use Rattle.bridge_ast.proofs.AnsweredLemmas.{search_finds}
use Rattle.bridge_ast.proofs.bounds.ascending_has.Goals as goal

pub returns : goal.returns
returns c = λ ascend.
    search_finds c.args.numbers.now c.args.number c.binary_search.result c.is_ok.result c.is_ok.ensures.value
    c.binary_search.ensures.position ascend
