use Rattle.bridge_decl.specs.declared.lifetimes.LifetimeNode.{LifetimeNode}
use Rattle.hir_reports.proofs.StoreLaws.{added_nothing, added_step}
use Rattle.hir_heads.specs.Names.{name_errors}
use Rattle.hir_heads.proofs.lifetimes.tell_lifetimes.Goals as goal

pub loop-node-init : goal.loop-node-init
loop-node-init c = (added_nothing c.args.errors.now, λ _ keeps. keeps)

pub loop-node-preserved : goal.loop-node-preserved
loop-node-preserved c = (
  added_step (λ (node : LifetimeNode). name_errors node.name) c.args.errors.now c.loop-node.errors _ c.as_slice-node-items.result.now c.loop-node.node-index c.node-item.result
      c.loop-node-test.true c.loop-node.invariant.0 (rw (← c.node-item.is) c.in_ok-lower_ident.ensures.told),
  λ earlier keeps. c.in_ok-lower_ident.ensures.kept earlier (c.loop-node.invariant.1 earlier keeps),
)

pub returns-in_err-lower_ident-clause-kept : goal.returns-in_err-lower_ident-clause-kept
returns-in_err-lower_ident-clause-kept c = λ earlier keeps. c.in_err-lower_ident.ensures.kept earlier (c.loop-node.invariant.1 earlier keeps)
