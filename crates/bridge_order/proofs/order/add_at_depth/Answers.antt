use Rattle.std.proofs.Common.{◌++◌, ap, sym, ◌∙◌, take}
use Rattle.std.specs.Prelude.{◌==◌}
use Rattle.std.proofs.lemmas.List.{append_assoc}
use Rattle.bridge_order.specs.Order.{at_depth, where_there}
use Rattle.bridge_order.proofs.OrderLemmas.{depth_next}
use Rattle.bridge_order.proofs.order.add_at_depth.Goals as goal

pub loop-number-preserved : goal.loop-number-preserved
loop-number-preserved c =
    let before = at_depth c.args.depth 0 (take c.loop-number.number c.args.modules.now) in
    let here = depth_next c.args.depth c.loop-number.number c.args.modules.now c.index-modules-number.result c.loop-number-test.true c.index-modules-number.is in
    c.in_ok-add_where.ensures ∙ ap (λ l. l ++ where_there (c.len.result == c.args.depth) c.loop-number.number) c.loop-number.invariant
    ∙ append_assoc c.args.order.now.items before (where_there (c.len.result == c.args.depth) c.loop-number.number)
    ∙ ap (λ n. c.args.order.now.items ++ (before ++ where_there (n == c.args.depth) c.loop-number.number)) c.len.ensures
    ∙ ap (λ l. c.args.order.now.items ++ l) (sym here)
