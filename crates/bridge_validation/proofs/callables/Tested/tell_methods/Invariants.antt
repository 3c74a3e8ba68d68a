use Rattle.std.proofs.Common.{◌≡◌, ◌++◌, drop}
use Rattle.std.specs.List.{enumerate_from, flat_map}
use Rattle.hir_context.specs.Lookups.{lent_type}
use Rattle.bridge_validation.specs.Told.{lowered_method_reports}
use Rattle.bridge_validation.proofs.callables.Tested.tell_methods.Given as goal

-- the reports with those of the methods that are left are all
abbrev pub invariant-loop-number : goal.invariant-loop-number
invariant-loop-number l =
    let told = lowered_method_reports l.self.callbacks_must_fail l.self.counts.tcx.now.definitions (l.id, lent_type l.def) in
    l.errors.reports ++ flat_map told (enumerate_from l.number (drop l.number l.methods)) ≡ l.fn.errors.reports ++ flat_map told (enumerate_from 0 l.methods)
