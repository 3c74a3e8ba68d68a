use Rattle.std.proofs.Common.{◌++◌, ◌∷◌, ◌<◌, [], List, ℕ, length, ap, arith, sym, ◌∙◌}
use Rattle.bridge_leaves.specs.inside.Counting.{struct_here}
use Rattle.bridge_leaves.proofs.RowLemmas.{is_here}
use Rattle.hir_nesting.proofs.Building.{on_ok_so, row_more}
use Rattle.bridge_leaves.proofs.graph.add_edge.Goals as goal

pub returns-then-index-len-clause-edges : goal.returns-then-index-len-clause-edges
returns-then-index-len-clause-edges c = λ before after row is at.
    let g : List (List ℕ) = c.args.graph.now in
    let within : c.in-Struct.id < length g = omega (arith, c.if-index-len.true, c.index.ensures, c.len.ensures.count) in
    on_ok_so c.add_edge.result c.add_edge.ensures.ok (λ e. e ∙ row_more g before after row c.args.from c.index-then-index-len.result is at
    ∙ ap (λ (t : ℕ). before ++ (row ++ t ∷ []) ∷ after) c.index-then-index-len.ensures
    ∙ ap (λ (r : List ℕ). before ++ (row ++ r) ∷ after)
    (sym (ap (struct_here (length g)) (sym c.in-Struct.ensures.skeleton) ∙ is_here (length g) c.in-Struct.id c.in-Struct.field-1.now within)))
