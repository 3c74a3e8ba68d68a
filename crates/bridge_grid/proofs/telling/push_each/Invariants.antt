use Rattle.std.proofs.Common.{◌≡◌, map, take}
use Rattle.hir_reports.specs.Store.{added}
use Rattle.bridge_grid.specs.Telling.{fault_error}
use Rattle.bridge_grid.proofs.telling.push_each.Given as goal

abbrev pub invariant-loop-fault : goal.invariant-loop-fault
invariant-loop-fault l = l.store ≡ added l.fn.store (map fault_error (take l.fault-index l.faults))
