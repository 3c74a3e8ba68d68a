use Rattle.std.proofs.Common.{◌≡◌, take}
use Rattle.std.specs.List.{flat_map}
use Rattle.hir_reports.specs.Store.{added}
use Rattle.hir_validation.specs.Returned.{returned_param_errors}
use Rattle.hir_validation.proofs.returned.ReturnedLifetimes.tell_params.Given as goal

abbrev pub invariant-loop-param : goal.invariant-loop-param
invariant-loop-param l = l.errors ≡ added l.initial.errors (flat_map (returned_param_errors l.self.env l.self.returned) (take l.param-index l.params))
