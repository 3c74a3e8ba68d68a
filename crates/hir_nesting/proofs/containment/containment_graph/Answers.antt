use Rattle.std.proofs.Common.{◌++◌, ◌+◌, [], ℕ, arith, length, replicate, ap, refl, ◌∙◌}
use Rattle.std.proofs.lemmas.List.{append-nil}
use Rattle.hir_nesting.proofs.Rows.{both_kinds, rows, rows_length}
use Rattle.hir_nesting.proofs.containment.containment_graph.Goals as goal

pub returns : goal.returns
returns g c =
    let outs : ℕ = length c.args.out_structs.now in
    let others : ℕ = length c.args.structs.now in
    c.in_ok-add_structs-2.ensures.edges (rows g.O.StructPath.StructPathLike.id_of outs others c.args.out_structs.now) 0
    (c.in_ok-add_structs.ensures.edges [] others (c.in_ok-graph.ensures ∙ ap (λ n. replicate n []) c.in_ok-count.ensures) refl
    ∙ ap (λ n. rows g.O.StructPath.StructPathLike.id_of outs others c.args.out_structs.now ++ replicate n []) (omega arith))
    (rows_length g.O.StructPath.StructPathLike.id_of outs others c.args.out_structs.now)
    ∙ append-nil (rows g.O.StructPath.StructPathLike.id_of outs others c.args.out_structs.now ++ rows g.S.StructPath.StructPathLike.id_of outs others c.args.structs.now)
    ∙ both_kinds g.O.StructPath.StructPathLike.id_of g.S.StructPath.StructPathLike.id_of c.args.out_structs.now c.args.structs.now
