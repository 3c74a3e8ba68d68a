use Rattle.std.proofs.Common.{◌↔◌, drop}
use Rattle.hir_life.specs.Environment.{longer_of}
use Rattle.hir_life.specs.Outlives.{Linked}
use Rattle.hir_explain.proofs.checking.leads_to.Given as goal

abbrev pub invariant-loop-next : goal.invariant-loop-next
invariant-loop-next l =
    Linked (longer_of l.env) l.fn.first l.rest l.fn.t ↔ Linked (longer_of l.env) l.last (drop l.next-index l.rest) l.fn.t
