use Rattle.std.proofs.Common.{map, take}
use Rattle.std.specs.List.{FoldsTo}
use Rattle.hir_borrowing_fields.specs.NamedLeaves.{leaf_at}
use Rattle.hir_borrowing_fields.specs.VisitedLeaves.{CalledAtLeaf}
use Rattle.hir_borrowing_fields.proofs.visitor.visit_leaf.Given as goal

abbrev pub invariant-loop-lifetime : goal.invariant-loop-lifetime
invariant-loop-lifetime g l = record {
  callable : goal.F-IsAlwaysCallable g l.visit;
  called : FoldsTo (λ p x q. CalledAtLeaf g.F.FnMut p x tt q) l.initial.visit (map (λ lifetime. (lifetime, leaf_at l.visitor l.i)) (take l.lifetime-index l.carried)) l.visit;
}
