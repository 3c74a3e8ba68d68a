use Rattle.std.proofs.Common.{◌≡◌, ◌++◌, false, refl, ap, sym, subst, ◌∙◌}
use Rattle.std.specs.Prelude.{OnOk}
use Rattle.hir_borrowing_params.specs.Edges.{is_in}
use Rattle.hir_mentions.specs.Mentions.{where_any}
use Rattle.hir_skeleton.specs.Lowered.{receiver_skeleton}
use Rattle.bridge_report.specs.InContext.{receiver_input}
use Rattle.bridge_report.specs.declared.report.InputPlace.TheVariants as place
use Rattle.bridge_borrow.specs.inside.Edges.{part_edges, receiver_edges}
use Rattle.bridge_borrow.proofs.Edging.{edges_by_part}
use Rattle.bridge_borrow.proofs.edges.push_receiver_edges.Goals as goal

pub returns-in-Struct : goal.returns-in-Struct
returns-in-Struct c =
    let test = is_in c.args.longer.now in
    let ty = c.in-Some.receiver.ty in
    subst (λ es. OnOk c.push_struct_edges.result (c.push_struct_edges.new.edges ≡ c.args.edges.now ++ es))
    (ap (part_edges place.Receiver test false) (sym c.in-Struct.is)
    ∙ edges_by_part place.Receiver test (receiver_input ty) (receiver_skeleton ty) c.receiver_part.result c.receiver_part.ensures.skeleton
    c.receiver_part.ensures.slice refl
    ∙ ap (where_any (receiver_edges test)) (sym c.in-Some.is))
    c.push_struct_edges.ensures
