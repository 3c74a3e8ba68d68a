use Rattle.std.proofs.Common.{take}
use Rattle.std.specs.List.{FoldsTo}
use Rattle.hir_borrowing_fields.specs.NamedLeaves.{lifetimes_with_leaves}
use Rattle.hir_borrowing_fields.specs.VisitedLeaves.{CalledAtLeaf}
use Rattle.hir_borrowing_fields.proofs.visitor.BorrowingFieldVisitor.visit_borrowing_fields.Given as goal

abbrev pub invariant-loop-i : goal.invariant-loop-i
invariant-loop-i g l = record {
  callable : goal.F-IsAlwaysCallable g l.visit;
  called : FoldsTo (λ p x q. CalledAtLeaf g.F.FnMut p x tt q) l.initial.visit (lifetimes_with_leaves (take l.i l.self)) l.visit;
}
