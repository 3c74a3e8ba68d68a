use Rattle.hir_explain.proofs.Ascending.{ascends_where_sorted}
use Rattle.hir_explain.proofs.reading.do_ascend.Goals as goal

pub returns : goal.returns
returns c = λ so. ascends_where_sorted c.args.list.now c.is_sorted.result c.is_sorted.ensures.cases so
