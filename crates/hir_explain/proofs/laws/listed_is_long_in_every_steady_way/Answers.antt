use Rattle.hir_explain.proofs.Closing.{listed_where_steady}
use Rattle.hir_explain.proofs.laws.listed_is_long_in_every_steady_way.Goals as goal

pub returns : goal.returns
returns c = λ e sound carried t below. listed_where_steady e sound carried t below
