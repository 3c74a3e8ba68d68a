use Rattle.std.proofs.Common.{refl}
use Rattle.bridge_ast.proofs.FrameLemmas.{frame_ends, frame_further, frame_stops, frame_waits}
use Rattle.bridge_ast.proofs.alias_ends.go_on.Goals as goal

pub loop-position-preserved : goal.loop-position-preserved
loop-position-preserved c = λ known are is_frame.
    let so_far = c.loop-position.invariant known are is_frame in
    frame_further c.args.modules.now c.args.ends.now c.args.frame.alias c.loop-position.position c.loop-position.trail so_far
    c.target_of-target.result.now c.index-target-position.result c.target_of-target.ensures c.loop-position-test.true
    c.index-target-position.is
    c.in-Comes.after (c.in-Comes.ensures c.args.modules.now known are so_far.inside)

pub returns-in-Waits : goal.returns-in-Waits
returns-in-Waits c = λ known are is_frame.
    let so_far = c.loop-position.invariant known are is_frame in (
      so_far,
      refl,
      frame_waits c.args.modules.now c.args.ends.now c.args.frame.alias c.loop-position.position c.loop-position.trail so_far
          c.target_of-target.result.now c.index-target-position.result c.target_of-target.ensures c.loop-position-test.true
          c.index-target-position.is
          c.in-Waits.next (c.in-Waits.ensures c.args.modules.now known are so_far.inside),
    )

pub returns-in-Stops : goal.returns-in-Stops
returns-in-Stops c = λ known are is_frame.
    let so_far = c.loop-position.invariant known are is_frame in
    frame_stops c.args.modules.now c.args.ends.now c.args.frame.alias c.loop-position.position c.loop-position.trail so_far
    c.target_of-target.result.now c.index-target-position.result c.target_of-target.ensures c.loop-position-test.true
    c.index-target-position.is
    (c.in-Stops.ensures c.args.modules.now known are so_far.inside)

pub returns : goal.returns
returns c = λ known are is_frame.
    let so_far = c.loop-position.invariant known are is_frame in
    frame_ends c.args.modules.now c.args.ends.now c.args.frame.alias c.loop-position.position c.loop-position.trail so_far
    c.target_of-target.result.now c.target_of-target.ensures c.loop-position-test.false
