use Rattle.std.proofs.Common.{take, ◌++◌}
use Rattle.std.proofs.lemmas.Result.{err_from_is_err_and}
use Rattle.bridge_ast.specs.EnvFaults.{items_named, aliases_named}
use Rattle.bridge_ast.proofs.ItemLemmas.{alias_kept, alias_stopped, aliases_named_more}
use Rattle.bridge_ast.proofs.items.test_aliases.Goals as goal

pub returns-in_err-claim-clause-told : goal.returns-in_err-claim-clause-told
returns-in_err-claim-clause-told c = λ items indexed.
    let p = err_from_is_err_and c.from_residual.result c.from_residual.ensures.1 in
    let i = c.loop-number.number in
    let so_far = c.loop-number.invariant items indexed in
    rw (p.1, p.2)
    (alias_stopped c.args.«module» items c.args.aliases.now i c.index-aliases-number.result c.in_err-claim.field-0.0
    c.loop-number-test.true c.index-aliases-number.is so_far.none
    (c.in_err-claim.ensures.told (items_named items ++ aliases_named (take i c.args.aliases.now)) so_far.names))

pub loop-number-preserved : goal.loop-number-preserved
loop-number-preserved c = λ items indexed.
    let i = c.loop-number.number in
    let so_far = c.loop-number.invariant items indexed in
    let before = items_named items ++ aliases_named (take i c.args.aliases.now) in
    record {
      names =
          aliases_named_more c.args.«module» items c.args.aliases.now i c.index-aliases-number.result c.claim.new.index
          c.loop-number-test.true c.index-aliases-number.is (c.in_ok-claim.ensures.kept before so_far.names);
      none =
          alias_kept c.args.«module» items c.args.aliases.now i c.index-aliases-number.result c.loop-number-test.true
          c.index-aliases-number.is so_far.none (c.in_ok-claim.ensures.told before so_far.names);
    }
