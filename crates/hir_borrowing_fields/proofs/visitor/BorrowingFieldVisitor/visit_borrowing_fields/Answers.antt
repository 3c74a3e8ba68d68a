use Rattle.std.proofs.Common.{arith, subst, ◌∙◌}
use Rattle.std.specs.List.{FoldsTo}
use Rattle.std.proofs.lemmas.List.{take_all}
use Rattle.hir_borrowing_fields.specs.NamedLeaves.{lifetimes_with_leaves}
use Rattle.hir_borrowing_fields.specs.VisitedLeaves.{CalledAtLeaf}
use Rattle.hir_borrowing_fields.proofs.CallLemmas.{visited_next}
use Rattle.hir_borrowing_fields.proofs.visitor.BorrowingFieldVisitor.visit_borrowing_fields.Goals as goal

pub loop-i-preserved : goal.loop-i-preserved
loop-i-preserved g c = record {
  callable = c.visit_leaf.ensures.callable;
  called =
      let within = c.loop-i-test.true in
      let long = c.len-i-end.ensures in
      visited_next (λ p x q. CalledAtLeaf g.F.FnMut p x tt q) c.args.self.now c.loop-i.i c.as_slice.result.now c.args.visit.now c.loop-i.visit c.visit_leaf.new.visit
      (omega (arith, within, long)) (c.as_slice.ensures ∙ c.carried.ensures) c.loop-i.invariant.called c.visit_leaf.ensures.called;
}

pub returns-clause-called : goal.returns-clause-called
returns-clause-called g c =
    let over = c.loop-i-test.false in
    let long = c.len-i-end.ensures in
    subst (λ leaves. FoldsTo (λ p x q. CalledAtLeaf g.F.FnMut p x tt q) c.args.visit.now (lifetimes_with_leaves leaves) c.loop-i.visit)
    (take_all c.loop-i.i c.args.self.now (omega (arith, over, long))) c.loop-i.invariant.called
