use Rattle.std.proofs.Common.{◌++◌, ◌∷◌, [], ap, sym, ◌∙◌}
use Rattle.std.specs.List.{cons_option}
use Rattle.hir_nesting.proofs.Building.{on_ok_so, row_more}
use Rattle.hir_nesting.proofs.containment.add_contained.Goals as goal

pub returns-in-Some-clause-edges : goal.returns-in-Some-clause-edges
returns-in-Some-clause-edges c = λ before after row is at.
    on_ok_so c.add_edge.result (c.add_edge.ensures.ok) (λ e. e ∙ row_more c.args.graph.now before after row c.args.from c.in-Some.to is at
    ∙ ap (λ o. before ++ (row ++ cons_option o []) ∷ after) (sym (sym c.number_of.ensures ∙ c.in-Some.is)))
