use Rattle.std.proofs.Common.{◌≡◌, take}
use Rattle.std.specs.List.{flat_map}
use Rattle.hir_reports.specs.Store.{added}
use Rattle.hir_validation.specs.Signatures.{lowered_trait_param_errors}
use Rattle.hir_validation.proofs.validation.Validation.tell_trait_params.Given as goal

abbrev pub invariant-loop-param : goal.invariant-loop-param
invariant-loop-param l =
    l.errors ≡ added l.initial.errors (flat_map (lowered_trait_param_errors l.self.callbacks_must_fail l.self.tcx.now.definitions) (take l.param-index l.params))
