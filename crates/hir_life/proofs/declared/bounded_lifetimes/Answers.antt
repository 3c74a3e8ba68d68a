use Rattle.std.proofs.Common.{◌∙◌, ◌++◌, ◌∷◌, [], ap, map, subst, sym, take}
use Rattle.std.proofs.lemmas.List.{map_more}
use Rattle.std.proofs.lemmas.List.Elements.{All-more}
use Rattle.bridge_text.specs.Ident.{IsIdent}
use Rattle.bridge_decl.specs.declared.lifetimes.LifetimeNode.{LifetimeNode}
use Rattle.hir_life.specs.Declarations.{bounded}
use Rattle.hir_life.proofs.declared.bounded_lifetimes.Goals as goal

pub loop-node-preserved : goal.loop-node-preserved
loop-node-preserved c =
    let nodes = c.args.nodes.now in
    let one = c.in_ok-bounded_lifetime in (
      c.in_ok-push.ensures.ok ∙ ap (λ made. made ++ one.field-0 ∷ []) c.loop-node.invariant.0
          ∙ ap (λ last. map bounded (take c.loop-node.node-index nodes) ++ last ∷ []) (one.ensures.value ∙ ap bounded c.node-item.is)
          ∙ sym (map_more bounded nodes c.loop-node.node-index c.node-item.result c.loop-node-test.true),
      All-more (λ (node : LifetimeNode). IsIdent node.name) nodes c.loop-node.node-index c.node-item.result c.loop-node-test.true c.loop-node.invariant.1
          (subst (λ (node : LifetimeNode). IsIdent node.name) c.node-item.is one.ensures.valid),
    )
