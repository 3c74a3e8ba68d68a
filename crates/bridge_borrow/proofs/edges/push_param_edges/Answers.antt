use Rattle.std.proofs.Common.{◌≡◌, ◌++◌, refl, ap, sym, subst, ◌∙◌}
use Rattle.std.specs.Prelude.{OnOk}
use Rattle.hir_borrowing_params.specs.Edges.{is_in}
use Rattle.hir_skeleton.specs.Inputs.{param_skeleton}
use Rattle.bridge_report.specs.InContext.{param_input}
use Rattle.bridge_report.specs.declared.report.InputPlace.TheVariants as place
use Rattle.bridge_borrow.specs.inside.Edges.{part_edges, edges_of_struct}
use Rattle.bridge_borrow.proofs.Edging.{edges_by_part}
use Rattle.bridge_borrow.proofs.edges.push_param_edges.Goals as goal

pub returns-in-Struct : goal.returns-in-Struct
returns-in-Struct c =
    let test = is_in c.args.longer.now in
    let p = c.args.param.now in
    let at = place.Param c.args.number in
    subst (λ es. OnOk c.push_struct_edges.result (c.push_struct_edges.new.edges ≡ c.args.edges.now ++ es))
    (ap (λ optional. edges_of_struct at test optional 0 c.in-Struct.args.now) c.is_option-optional.ensures
    ∙ ap (part_edges at test (param_input p).optional) (sym c.in-Struct.is)
    ∙ edges_by_part at test (param_input p) (param_skeleton p.ty) c.input_part.result c.input_part.ensures.skeleton c.input_part.ensures.slice refl)
    c.push_struct_edges.ensures
