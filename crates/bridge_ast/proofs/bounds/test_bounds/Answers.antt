use Rattle.std.proofs.lemmas.Result.{err_from_is_err_and}
use Rattle.bridge_ast.proofs.AnsweredLemmas.{bounds_told, bounds_stopped}
use Rattle.bridge_ast.proofs.bounds.test_bounds.Goals as goal

pub returns : goal.returns
returns c = λ nodes bounds within.
    bounds_told c.needed-2.result c.args.at nodes c.args.number c.args.node.now c.is_in_range-in_range.result
    c.is_answered-answered.result
    (c.is_in_range-in_range.ensures nodes bounds.count) (c.is_answered-answered.ensures nodes bounds within) c.in_ok-needed.ensures
    c.needed-2.ensures

pub returns-in_err-needed : goal.returns-in_err-needed
returns-in_err-needed c = λ nodes bounds within.
    let p = err_from_is_err_and c.from_residual.result c.from_residual.ensures.1 in
    rw (p.1, p.2) (bounds_stopped c.in_err-needed.field-0.0 c.args.at nodes c.args.number c.args.node.now
    c.is_in_range-in_range.result (c.is_in_range-in_range.ensures nodes bounds.count) c.in_err-needed.ensures)
