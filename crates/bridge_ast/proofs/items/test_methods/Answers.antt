use Rattle.std.proofs.lemmas.Result.{err_from_is_err_and}
use Rattle.bridge_ast.proofs.ItemLemmas.{method_kept, method_stopped}
use Rattle.bridge_ast.proofs.items.test_methods.Goals as goal

pub returns-in_err-test_lifetimes : goal.returns-in_err-test_lifetimes
returns-in_err-test_lifetimes c =
    let p = err_from_is_err_and c.from_residual.result c.from_residual.ensures.1 in
    rw (p.1, p.2)
    (method_stopped c.args.«module» c.args.item (λ method. method.lifetime_env.nodes) c.args.methods.now c.loop-number.number
    c.index-methods-number.result c.as_slice.result.now c.in_err-test_lifetimes.field-0.0
    c.loop-number-test.true c.index-methods-number.is c.as_slice.ensures c.loop-number.invariant c.in_err-test_lifetimes.ensures)

pub loop-number-preserved : goal.loop-number-preserved
loop-number-preserved c =
    method_kept c.args.«module» c.args.item (λ method. method.lifetime_env.nodes) c.args.methods.now c.loop-number.number
    c.index-methods-number.result c.as_slice.result.now
    c.loop-number-test.true c.index-methods-number.is c.as_slice.ensures c.loop-number.invariant c.in_ok-test_lifetimes.ensures
