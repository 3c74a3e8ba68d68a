use Rattle.std.proofs.Common.{◌≡◌, get_or, refl, sym, ◌∙◌, ap, subst, arith}
use Rattle.std.proofs.lemmas.List.{get_or_read, get_or_default}
use Rattle.std.proofs.lemmas.List.Elements.{Contains-get_or}
use Rattle.std.proofs.lemmas.Bool.{false≢true}
use Rattle.definition_graph.specs.Reaching.{Edge, successors}
use Rattle.definition_graph.proofs.Surveyed.{cycle_from_edge, edge_from_cycle}
use Rattle.definition_graph.proofs.cycles.is_on_cycle.Goals as goal

pub returns-then-index-clause-cycle : goal.returns-then-index-clause-cycle
returns-then-index-clause-cycle g c =
    let graph = c.args.graph.now in
    let number = c.args.components.now.number.items in
    let edge : Edge graph c.args.node c.successor-target.result =
    subst (λ x. Edge graph c.args.node x) (sym c.successor-target.ensures.value)
    (Contains-get_or (successors graph c.args.node) c.loop-place.place 0 (omega arith)) in
    let one : c.index.result.now ≡ get_or number c.successor-target.result 0 =
    get_or_read number c.successor-target.result _ (omega (arith, c.successor-target.ensures.within, c.requires.components.each)) c.index.ensures 0 in
    let two : c.index-in-loop-place.result.now ≡ get_or number c.args.node 0 =
    get_or_read number c.args.node _ (omega (arith, c.requires.within, c.requires.components.each)) c.index-in-loop-place.ensures 0 in (
      λ _. cycle_from_edge graph _ _ c.requires.components c.args.node c.successor-target.result edge c.successor-target.ensures.within
          (sym one ∙ c.if-index.true ∙ two),
      λ _. refl,
    )

pub returns-clause-cycle : goal.returns-clause-cycle
returns-clause-cycle g c =
    let graph = c.args.graph.now in (
      λ h. absurd (false≢true h),
      λ cycle.
          let e = edge_from_cycle graph _ _ c.requires.components c.args.node cycle in
          let same : get_or (successors graph c.args.node) e.1.0 0 ≡ e.0 =
          get_or_default (successors graph c.args.node) e.1.0 0 e.0 e.1.1 ∙ e.1.2 in
          absurd (c.loop-place.invariant.apart e.1.0 (omega (arith, e.1.1))
          (ap (λ n. get_or c.args.components.now.number.items n 0) same ∙ e.2)),
    )
