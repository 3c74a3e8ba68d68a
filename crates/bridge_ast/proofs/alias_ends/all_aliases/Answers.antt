use Rattle.bridge_ast.proofs.FrameLemmas.{aliases_more, aliases_none, aliases_all}
use Rattle.bridge_ast.proofs.alias_ends.all_aliases.Goals as goal

pub loop-number-init : goal.loop-number-init
loop-number-init c = aliases_none c.args.modules.now c.new-aliases.result c.new-aliases.ensures.empty

pub loop-number-preserved : goal.loop-number-preserved
loop-number-preserved c =
    aliases_more c.args.modules.now c.loop-number.number c.index-modules-number.result c.len.result c.loop-number.aliases
    c.add_aliases.new.aliases c.loop-number-test.true c.index-modules-number.is c.len.ensures c.loop-number.invariant
    c.in_ok-add_aliases.ensures

pub returns : goal.returns
returns c =
    aliases_all c.args.modules.now c.loop-number.number c.loop-number.aliases c.loop-number-test.false c.loop-number.invariant
