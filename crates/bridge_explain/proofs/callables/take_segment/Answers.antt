use Rattle.std.proofs.Common.{ap, sym, ◌∙◌}
use Rattle.bridge_comparing.specs.Words.{once_taken}
use Rattle.bridge_comparing.proofs.WordLemmas.{after_both}
use Rattle.bridge_printing.specs.inside.Segments.{separator_if}
use Rattle.bridge_explain.proofs.callables.take_segment.Goals as goal

pub returns : goal.returns
returns c =
    c.take.ensures ∙ ap (once_taken c.args.segment.now) c.take_colons.ensures
    ∙ sym (after_both (separator_if c.args.is_after) c.args.segment.now c.args.left.now)
