use Rattle.hir_usage_notes.proofs.NotingLemmas.{noted_next}
use Rattle.hir_usage_notes.proofs.uses.note_each.Goals as goal

pub loop-def-preserved : goal.loop-def-preserved
loop-def-preserved g c =
    noted_next g.D.UsesDefinitions.usages_of c.args.defs.now c.loop-def.def-index c.def-item.result _ _ _
    c.loop-def-test.true c.def-item.is c.loop-def.invariant c.in_ok-note_in.ensures
