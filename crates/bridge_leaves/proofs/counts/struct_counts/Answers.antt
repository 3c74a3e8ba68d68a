use Rattle.std.proofs.Common.{sym, subst, ◌∙◌}
use Rattle.definition_graph.specs.Reaching.{IsGraph}
use Rattle.bridge_leaves.proofs.ReportLemmas.{counts_of, ok_so}
use Rattle.bridge_leaves.proofs.counts.struct_counts.Goals as goal

pub returns : goal.returns
returns c =
    ok_so c.totals.result c.totals.ensures (λ totals all.
    counts_of c.args.tcx.now c.structs.result.now c.structs-2.result.now c.in_ok-graph.graph c.deref-3.result.now c.deref-2.result.now totals.items
    c.structs.ensures c.structs-2.ensures c.in_ok-graph.ensures (c.deref-3.ensures.value ∙ c.in_ok-own.ensures) (subst IsGraph c.graph.view_is c.graph.invariant)
    (rw (← sym c.deref-2.ensures.value) c.in_ok-survey.ensures.depths) all)
