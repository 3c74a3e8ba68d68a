use Rattle.hir_context.specs.Lookups.{lent_type}
use Rattle.bridge_validation.specs.Told.{lowered_method_reports}
use Rattle.bridge_validation.proofs.WalkLemmas.{left_next}
use Rattle.bridge_validation.proofs.callables.Tested.tell_methods.Goals as goal

pub loop-number-preserved : goal.loop-number-preserved
loop-number-preserved c =
    left_next (lowered_method_reports c.args.self.now.callbacks_must_fail c.args.self.now.counts.tcx.now.definitions (c.args.id.now, lent_type c.args.def.now))
    c.args.methods.now c.loop-number.number c.index-methods-number.result c.loop-number.errors.reports c.tell_method.new.errors.reports _ c.loop-number-test.true
    c.index-methods-number.is c.loop-number.invariant c.in_ok-tell_method.ensures
