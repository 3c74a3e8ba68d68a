use Rattle.hir_usage.specs.Callbacks.{method_usages}
use Rattle.hir_usage_notes.proofs.NotingLemmas.{noted_next}
use Rattle.hir_usage_notes.proofs.uses.note_methods.Goals as goal

pub loop-method-preserved : goal.loop-method-preserved
loop-method-preserved c =
    noted_next method_usages c.args.methods.now c.loop-method.method-index c.method-item.result _ _ _ c.loop-method-test.true c.method-item.is
    c.loop-method.invariant c.in_ok-note_method.ensures
