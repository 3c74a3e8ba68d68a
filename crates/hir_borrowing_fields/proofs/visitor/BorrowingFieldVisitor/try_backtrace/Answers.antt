use Rattle.std.proofs.Common.{subst}
use Rattle.std.specs.List.{enumerate_from}
use Rattle.hir_borrowing_fields.specs.Calls.{CalledAtName, TriesEach}
use Rattle.hir_borrowing_fields.specs.NamedLeaves.{leaf_at}
use Rattle.hir_borrowing_fields.proofs.visitor.BorrowingFieldVisitor.try_backtrace.Goals as goal

pub returns-clause-called : goal.returns-clause-called
returns-clause-called g c =
    subst (λ leaves. TriesEach (CalledAtName g.F.FnMut) c.args.visit.now (enumerate_from 0 (leaf_at leaves c.args.i).names) c.try_backtrace.result c.try_backtrace.new.visit)
    c.self.view_is c.try_backtrace.ensures.called
