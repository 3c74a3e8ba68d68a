use Rattle.std.proofs.Common.{◌∙◌, subst}
use Rattle.std.specs.Prelude.{All}
use Rattle.std.proofs.lemmas.List.{take_all}
use Rattle.std.proofs.lemmas.List.Elements.{All-more}
use Rattle.bridge_text.specs.Ident.{IsIdent}
use Rattle.bridge_decl.specs.declared.lifetimes.LifetimeNode.{LifetimeNode}
use Rattle.hir_fields.proofs.idents.all_named.Goals as goal

pub loop-node-preserved : goal.loop-node-preserved
loop-node-preserved c =
    All-more (λ (node : LifetimeNode). IsIdent node.name) c.as_slice-node-items.result.now c.loop-node.node-index c.node-item.result c.loop-node-test.true
    c.loop-node.invariant
    (subst (λ (node : LifetimeNode). IsIdent node.name) c.node-item.is (subst IsIdent c.as_str.ensures (c.is_ident.ensures.0 c.if-not-is_ident.false)))

pub returns : goal.returns
returns c =
    subst (All (λ (node : LifetimeNode). IsIdent node.name))
    (take_all c.loop-node.node-index c.as_slice-node-items.result.now c.loop-node-test.false ∙ c.as_slice-node-items.ensures) c.loop-node.invariant
