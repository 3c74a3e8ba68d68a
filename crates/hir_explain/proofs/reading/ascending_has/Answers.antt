use Rattle.hir_explain.proofs.Ascending.{found_by_halves}
use Rattle.hir_explain.proofs.reading.ascending_has.Goals as goal

pub returns : goal.returns
returns c =
    found_by_halves c.args.list.now c.args.lifetime c.binary_search.result c.is_ok.result c.is_ok.ensures.value
    c.binary_search.ensures.position c.requires
