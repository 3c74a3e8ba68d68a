use Rattle.std.proofs.Common.{◌++◌, ap, nat_lt, ◌∙◌}
use Rattle.bridge_comparing.specs.Words.{once_taken}
use Rattle.bridge_printing.specs.inside.Segments.{separator_if}
use Rattle.bridge_explain.proofs.Taking.{segment_taken}
use Rattle.bridge_explain.proofs.callables.take_module.Goals as goal

pub loop-place-preserved : goal.loop-place-preserved
loop-place-preserved c =
    segment_taken c.args.path.now c.loop-place.place c.index-path-place.result c.args.left.now c.loop-place.left c.take_segment.new.left c.loop-place.invariant
    (c.take_segment.ensures ∙ ap (λ segment. once_taken (separator_if (nat_lt 0 c.loop-place.place) ++ segment) c.loop-place.left) c.as_str.ensures) c.loop-place-test.true
    c.index-path-place.is
