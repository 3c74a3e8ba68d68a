use Rattle.std.proofs.Common.{subst}
use Rattle.std.specs.List.{FoldsTo, enumerate_from}
use Rattle.hir_borrowing_fields.specs.Calls.{CalledAtName}
use Rattle.hir_borrowing_fields.specs.NamedLeaves.{leaf_at}
use Rattle.hir_borrowing_fields.proofs.visitor.BorrowingFieldVisitor.backtrace.Goals as goal

pub returns-clause-called : goal.returns-clause-called
returns-clause-called g c =
    subst (λ leaves. FoldsTo (λ p x q. CalledAtName g.F.FnMut p x tt q) c.args.visit.now (enumerate_from 0 (leaf_at leaves c.args.i).names) c.backtrace.new.visit)
    c.self.view_is c.backtrace.ensures.called
