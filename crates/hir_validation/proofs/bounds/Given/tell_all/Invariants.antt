use Rattle.std.proofs.Common.{◌≡◌, take}
use Rattle.std.specs.List.{enumerate_from, flat_map}
use Rattle.hir_reports.specs.Store.{added}
use Rattle.hir_validation.specs.ImpliedBounds.{written_errors}
use Rattle.hir_validation.proofs.bounds.Given.tell_all.Given as goal

abbrev pub invariant-loop-number : goal.invariant-loop-number
invariant-loop-number l =
    l.errors ≡ added l.initial.errors (flat_map (written_errors l.self.direct.now l.self.source.now l.self.definition.now l.self.given.now)
    (enumerate_from 0 (take l.number l.self.definition.now.bounds)))
