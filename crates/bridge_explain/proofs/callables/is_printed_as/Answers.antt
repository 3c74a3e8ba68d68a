use Rattle.std.proofs.Common.{ap, ◌∙◌}
use Rattle.std.specs.Prelude.{codes, option_map}
use Rattle.std.specs.List.{join_by}
use Rattle.bridge_comparing.specs.Words.{once_taken}
use Rattle.bridge_comparing.proofs.WordLemmas.{told_whole}
use Rattle.bridge_printing.specs.inside.Segments.{joined_after, root_text}
use Rattle.bridge_printing.proofs.SegmentLemmas.{place_is}
use Rattle.hir_reports.specs.Places.{context_text, named_segments, subitem_segments}
use Rattle.bridge_report.specs.Places.{shown_place}
use Rattle.bridge_explain.proofs.Taking.{four_taken}
use Rattle.bridge_explain.proofs.callables.is_printed_as.Goals as goal

pub returns : goal.returns
returns c =
    let place = c.args.place.now in
    let method = option_map (λ name. name.now) place.method in
    told_whole (context_text (shown_place place)) c.args.word.now c.take_root.new.left
    (four_taken (join_by (λ segment. segment) (codes "::") place.«module».now) (joined_after _ (named_segments place.item.now))
    (joined_after c.take_item-with_item.result (subitem_segments method)) (root_text c.take_method-with_method.result) c.with-left.result c.take_module.new.left
    c.take_item-with_item.new.left c.take_method-with_method.new.left c.take_root.new.left c.take_module.ensures c.take_item-with_item.ensures.taken
    c.take_method-with_method.ensures.taken c.take_root.ensures
    ∙ ap (λ text. once_taken text c.with-left.result)
    (place_is place.«module».now place.item.now method c.is_empty.result c.take_item-with_item.result c.take_method-with_method.result c.is_empty.ensures
    c.take_item-with_item.ensures.any c.take_method-with_method.ensures.any)
    ∙ ap (once_taken (context_text (shown_place place))) c.with-left.ensures)
    c.is_whole.result c.is_whole.ensures
