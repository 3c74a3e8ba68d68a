use Rattle.std.proofs.Common.{◌++◌, ap, ◌∙◌}
use Rattle.hir_borrowing_params.specs.Edges.{is_in}
use Rattle.bridge_borrow.specs.inside.Edges.{params_edges, receiver_edges}
use Rattle.hir_mentions.specs.Mentions.{where_any}
use Rattle.bridge_borrow.proofs.Edging.{method_told}
use Rattle.bridge_borrow.proofs.edges.held_edges.Goals as goal

pub returns : goal.returns
returns c =
    let test = is_in c.args.longer.now in
    let m = c.args.method.now in
    c.in_ok-push_params_edges.ensures
    ∙ ap (λ ps. c.push_receiver_edges.new.edges ++ params_edges test 0 ps) c.as_slice.ensures
    ∙ ap (λ es. es ++ params_edges test 0 m.params)
    (c.in_ok-push_receiver_edges.ensures ∙ ap (λ es. es ++ where_any (receiver_edges test) m.param_self) c.new-edges.ensures)
    ∙ method_told test m
