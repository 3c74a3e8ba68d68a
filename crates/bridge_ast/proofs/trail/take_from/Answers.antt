use Rattle.bridge_ast.proofs.AdvanceLemmas.{advance_goes, advance_item, advance_alias, advance_nothing}
use Rattle.bridge_ast.proofs.trail.take_from.Goals as goal

pub returns-in-Goes : goal.returns-in-Goes
returns-in-Goes c =
    λ modules known are is_module. advance_goes modules c.args.ends.now c.args.number c.args.head c.args.steps c.args.segment.now
    c.in-Goes.to c.in-Goes.after is_module (c.in-Goes.ensures modules known is_module)

pub returns-in-Item : goal.returns-in-Item
returns-in-Item c =
    λ modules known are is_module. advance_item modules c.args.ends.now c.args.number c.args.head c.args.steps c.args.segment.now
    c.in-Item.item (c.in-Item.ensures modules known is_module)

pub returns-in-Alias : goal.returns-in-Alias
returns-in-Alias c = λ modules known are is_module.
    advance_alias modules c.args.ends.now c.args.number c.args.head c.args.steps c.args.segment.now
    c.in-Alias.alias c.follow_alias.result (c.in-Alias.ensures modules known is_module)
    (λ is_alias. c.follow_alias.ensures modules are is_alias)

pub returns-in-Nothing : goal.returns-in-Nothing
returns-in-Nothing c =
    λ modules known are is_module. advance_nothing modules c.args.ends.now c.args.number c.args.head c.args.steps
    c.args.segment.now (c.in-Nothing.ensures modules known is_module)
