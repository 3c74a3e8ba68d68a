use Rattle.std.proofs.Common.{take}
use Rattle.std.proofs.lemmas.Result.{err_from_is_err_and}
use Rattle.bridge_ast.specs.EnvFaults.{items_named}
use Rattle.bridge_ast.proofs.ItemLemmas.{item_kept, item_stopped, items_named_more}
use Rattle.bridge_ast.proofs.items.test_items.Goals as goal

pub returns-in_err-test_item-clause-told : goal.returns-in_err-test_item-clause-told
returns-in_err-test_item-clause-told c = λ empty.
    let p = err_from_is_err_and c.from_residual.result c.from_residual.ensures.1 in
    let i = c.loop-number.number in
    let so_far = c.loop-number.invariant empty in
    rw (p.1, p.2) (item_stopped c.args.«module» c.args.items.now i c.index-items-number.result c.in_err-test_item.field-0.0
    c.loop-number-test.true c.index-items-number.is so_far.none (c.in_err-test_item.ensures.told
    (items_named (take i c.args.items.now)) so_far.names))

pub loop-number-preserved : goal.loop-number-preserved
loop-number-preserved c = λ empty.
    let i = c.loop-number.number in
    let so_far = c.loop-number.invariant empty in
    let before = items_named (take i c.args.items.now) in
    record {
      names =
          items_named_more c.args.«module» c.args.items.now i c.index-items-number.result c.test_item.new.names
          c.loop-number-test.true c.index-items-number.is (c.in_ok-test_item.ensures.kept before so_far.names);
      none =
          item_kept c.args.«module» c.args.items.now i c.index-items-number.result c.loop-number-test.true c.index-items-number.is
          so_far.none (c.in_ok-test_item.ensures.told before so_far.names);
    }
