use Rattle.std.proofs.Common.{map, subst}
use Rattle.std.specs.List.{FoldsTo}
use Rattle.std.proofs.lemmas.List.{take_all}
use Rattle.hir_borrowing_fields.specs.NamedLeaves.{leaf_at}
use Rattle.hir_borrowing_fields.specs.VisitedLeaves.{CalledAtLeaf}
use Rattle.hir_borrowing_fields.proofs.CallLemmas.{called_next}
use Rattle.hir_borrowing_fields.proofs.visitor.visit_leaf.Goals as goal

pub loop-lifetime-preserved : goal.loop-lifetime-preserved
loop-lifetime-preserved g c = record {
  callable = c.call.ensures.callable;
  called =
      called_next (λ p x q. CalledAtLeaf g.F.FnMut p x tt q) (λ l. (l, leaf_at c.args.visitor.now c.args.i)) c.args.carried.now c.loop-lifetime.lifetime-index c.lifetime-item.result c.args.visit.now c.loop-lifetime.visit c.call.new.visit
      c.loop-lifetime-test.true c.lifetime-item.is c.loop-lifetime.invariant.called
      (subst (λ leaf. CalledAtLeaf g.F.FnMut c.loop-lifetime.visit (c.lifetime-item.result, leaf) tt c.call.new.visit) c.leaf.ensures c.call.ensures.called);
}

pub returns-clause-called : goal.returns-clause-called
returns-clause-called g c =
    subst (λ ls. FoldsTo (λ p x q. CalledAtLeaf g.F.FnMut p x tt q) c.args.visit.now (map (λ l. (l, leaf_at c.args.visitor.now c.args.i)) ls) c.loop-lifetime.visit)
    (take_all c.loop-lifetime.lifetime-index c.args.carried.now c.loop-lifetime-test.false) c.loop-lifetime.invariant.called
