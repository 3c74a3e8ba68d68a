use Rattle.std.proofs.Common.{[], ◌∷◌, ◌++◌, ◌<◌, length, set, subst, sym, ◌∙◌, ap, arith, rules}
use Rattle.std.proofs.lemmas.List.{length-map}
use Rattle.definition_graph.specs.Reaching.{IsGraph, successors}
use Rattle.definition_graph.specs.inside.Rows.{rows_of}
use Rattle.definition_graph.proofs.Building.{items_of, row_more, row_same, graph_more}
use Rattle.definition_graph.proofs.graph.Graph.add_edge.Goals as goal

pub invariant_of-self : goal.invariant_of-self
invariant_of-self c =
    let rows = c.self.inside.rows.items in
    let within : c.args.from < length rows = omega (arith, c.requires.from, ap length c.self.view_is, length-map rows items_of) in
    subst (λ g. IsGraph g) (sym (row_same rows c.args.from _ c.push.new.self within c.index_mut.ensures.value c.in_err-push.ensures.items))
    c.self.invariant

pub returns-in_err-push-clause-err : goal.returns-in_err-push-clause-err
returns-in_err-push-clause-err c =
    let rows = c.self.inside.rows.items in
    let within : c.args.from < length rows = omega (arith, c.requires.from, ap length c.self.view_is, length-map rows items_of) in
    let same =
    row_same rows c.args.from _ c.push.new.self within c.index_mut.ensures.value c.in_err-push.ensures.items ∙ c.self.view_is in
    search (rules, same)

pub invariant_of-self-2 : goal.invariant_of-self-2
invariant_of-self-2 c =
    let rows = c.self.inside.rows.items in
    let within : c.args.from < length rows = omega (arith, c.requires.from, ap length c.self.view_is, length-map rows items_of) in
    subst (λ g. IsGraph g)
    (sym (row_more rows c.args.from c.args.to _ c.push.new.self within c.index_mut.ensures.value c.in_ok-push.ensures.items))
    (graph_more (rows_of c.self.inside.rows) c.args.from c.args.to c.self.invariant
    (omega (arith, c.requires.from, ap length c.self.view_is)) (omega (arith, c.requires.to, ap length c.self.view_is)))

pub returns-clause-ok : goal.returns-clause-ok
returns-clause-ok c =
    let rows = c.self.inside.rows.items in
    let within : c.args.from < length rows = omega (arith, c.requires.from, ap length c.self.view_is, length-map rows items_of) in
    row_more rows c.args.from c.args.to _ c.push.new.self within c.index_mut.ensures.value c.in_ok-push.ensures.items
    ∙ ap (λ g. set g c.args.from (successors g c.args.from ++ c.args.to ∷ [])) c.self.view_is
