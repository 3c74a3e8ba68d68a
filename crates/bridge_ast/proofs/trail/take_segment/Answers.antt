use Rattle.bridge_ast.proofs.AdvanceLemmas.{advance_past, advance_module}
use Rattle.bridge_ast.proofs.trail.take_segment.Goals as goal

pub returns-in-Item : goal.returns-in-Item
returns-in-Item c =
    λ modules known are inside. advance_past modules c.args.ends.now c.args.trail c.in-Item.field-0 c.args.segment.now c.in-Item.is

pub returns-in-Module : goal.returns-in-Module
returns-in-Module c = λ modules known are inside.
    advance_module modules c.args.ends.now c.args.trail c.in-Module.number c.in-Module.head c.args.segment.now c.take_from.result
    c.in-Module.is (λ is_module. c.take_from.ensures modules known are is_module) inside
