use Rattle.hir_explain.proofs.Gathering.{Gathered}
use Rattle.hir_explain.proofs.explaining.all_reached.Given as goal

abbrev pub invariant-loop-number : goal.invariant-loop-number
invariant-loop-number l = Gathered l.search.reached l.env.count l.number l.list
