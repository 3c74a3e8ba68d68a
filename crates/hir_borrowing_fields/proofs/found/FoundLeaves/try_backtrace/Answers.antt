use Rattle.std.proofs.Common.{[], subst, sym}
use Rattle.std.specs.List.{enumerate_from}
use Rattle.hir_borrowing_fields.specs.Calls.{CalledAtName, TriesEach}
use Rattle.hir_skeleton.specs.NamedLeaves.{NamedLeaf}
use Rattle.hir_borrowing_fields.specs.NamedLeaves.{leaf_at}
use Rattle.hir_borrowing_fields.proofs.FindingLemmas.{leaf_read, leaf_within}
use Rattle.hir_borrowing_fields.proofs.found.FoundLeaves.try_backtrace.Goals as goal

pub returns-clause-called : goal.returns-clause-called
returns-clause-called g c =
    subst (λ found. TriesEach (CalledAtName g.F.FnMut) c.args.visit.now (enumerate_from 0 (leaf_at found.leaves c.args.i).names) c.try_backtrace.result c.try_backtrace.new.visit)
    c.self.view_is
    (subst (λ (leaf : NamedLeaf). TriesEach (CalledAtName g.F.FnMut) c.args.visit.now (enumerate_from 0 leaf.names) c.try_backtrace.result c.try_backtrace.new.visit)
    (sym (leaf_read c.self.inside.places c.self.inside.leaves.items c.args.i c.index.result.now (record { path = []; names = []; carried = [] })
    (leaf_within c.self.inside.places c.self.inside.leaves.items c.args.self.now c.args.i c.self.view_is c.requires.within) c.index.ensures))
    c.try_backtrace.ensures.called)
