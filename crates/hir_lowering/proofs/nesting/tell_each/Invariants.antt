use Rattle.std.proofs.Common.{◌≡◌, ◌++◌, take}
use Rattle.std.specs.List.{enumerate_from, flat_map}
use Rattle.hir_lowering.specs.Nesting.{nesting_reports_at}
use Rattle.hir_modules.specs.Holding.{HoldsStill}
use Rattle.hir_lowering.proofs.nesting.tell_each.Given as goal

abbrev pub invariant-loop-number : goal.invariant-loop-number
invariant-loop-number l =
    (l.errors.reports ≡ l.fn.errors.reports ++ flat_map (nesting_reports_at l.env l.faults) (take l.number (enumerate_from 0 l.places)))
    × HoldsStill l.fn.errors l.errors
