use Rattle.bridge_ast.proofs.FrameLemmas.{numbers_more, numbers_none, numbers_all}
use Rattle.bridge_ast.proofs.alias_ends.add_aliases.Goals as goal

pub loop-number-init : goal.loop-number-init
loop-number-init c = numbers_none c.args.aliases.now c.args.«module»

pub loop-number-preserved : goal.loop-number-preserved
loop-number-preserved c =
    numbers_more c.args.aliases.now c.loop-number.aliases c.insert.new.self c.args.«module» c.loop-number.number
    c.loop-number.invariant c.in_ok-insert.ensures.updates

pub returns : goal.returns
returns c =
    numbers_all c.args.aliases.now c.loop-number.aliases c.args.«module» c.loop-number.number c.args.count
    c.loop-number-test.false (c.loop-number.auto.number-end) c.loop-number.invariant
