use Rattle.std.proofs.Common.{◌≡◌, ◌++◌, drop}
use Rattle.std.specs.List.{flat_map}
use Rattle.bridge_validation.specs.Told.{lowered_trait_method_reports}
use Rattle.bridge_validation.proofs.callables.Tested.tell_trait.Given as goal

-- the reports with those of the methods that are left are all
abbrev pub invariant-loop-method : goal.invariant-loop-method
invariant-loop-method l =
    let told = lowered_trait_method_reports l.self.callbacks_must_fail l.self.counts.tcx.now.definitions (l.id, l.def) in
    l.errors.reports ++ flat_map told (drop l.method-index l.def.methods) ≡ l.fn.errors.reports ++ flat_map told l.def.methods
