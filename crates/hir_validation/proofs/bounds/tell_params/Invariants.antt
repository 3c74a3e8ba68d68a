use Rattle.std.proofs.Common.{◌≡◌, take}
use Rattle.std.specs.List.{flat_map}
use Rattle.hir_reports.specs.Store.{added}
use Rattle.hir_validation.specs.ImpliedBounds.{param_bound_errors}
use Rattle.hir_validation.proofs.bounds.tell_params.Given as goal

abbrev pub invariant-loop-param : goal.invariant-loop-param
invariant-loop-param l = l.errors ≡ added l.initial.errors (flat_map (param_bound_errors l.tcx.definitions l.direct) (take l.param-index l.params))
