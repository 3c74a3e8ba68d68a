use Rattle.std.proofs.Common.{refl}
use Rattle.bridge_ast.proofs.AdvanceLemmas.{come_further, come_to_alias, come_to_stop, come_to_end}
use Rattle.bridge_ast.proofs.trail.follow.Goals as goal

pub loop-segment-init : goal.loop-segment-init
loop-segment-init c = λ modules known ended is_module. (is_module, λ steps few. refl)

pub loop-segment-preserved : goal.loop-segment-preserved
loop-segment-preserved c = λ modules known ended is_module.
    come_further modules c.args.ends.now c.args.number c.args.segments.now c.loop-segment.segment-index c.segment-item.result
    c.loop-segment.trail c.loop-segment-test.true c.segment-item.is (c.loop-segment.invariant modules known ended is_module)
    c.in-Comes.after (c.in-Comes.ensures modules known ended.are (c.loop-segment.invariant modules known ended is_module).0)

pub returns-in-Waits : goal.returns-in-Waits
returns-in-Waits c = λ modules known ended is_module.
    come_to_alias modules c.args.ends.now c.args.number c.args.segments.now c.loop-segment.segment-index c.segment-item.result
    c.loop-segment.trail c.loop-segment-test.true c.segment-item.is (c.loop-segment.invariant modules known ended is_module)
    c.in-Waits.field-0 ended (c.in-Waits.ensures modules known ended.are (c.loop-segment.invariant modules known ended
    is_module).0)

pub returns-in-Stops : goal.returns-in-Stops
returns-in-Stops c = λ modules known ended is_module.
    come_to_stop modules c.args.ends.now c.args.number c.args.segments.now c.loop-segment.segment-index c.segment-item.result
    c.loop-segment.trail c.loop-segment-test.true c.segment-item.is (c.loop-segment.invariant modules known ended is_module)
    (c.in-Stops.ensures modules known ended.are (c.loop-segment.invariant modules known ended is_module).0)

pub returns : goal.returns
returns c =
    λ modules known ended is_module. come_to_end modules c.args.number c.args.segments.now c.loop-segment.segment-index
    c.loop-segment.trail c.loop-segment-test.false (c.loop-segment.invariant modules known ended is_module)
