use Rattle.std.proofs.Common.{◌≡◌, take}
use Rattle.std.specs.List.{flat_map}
use Rattle.hir_reports.specs.Store.{added}
use Rattle.hir_validation.specs.ImpliedBounds.{written_longer_errors}
use Rattle.hir_validation.proofs.bounds.Given.tell_all_longer.Given as goal

abbrev pub invariant-loop-number : goal.invariant-loop-number
invariant-loop-number l =
    l.errors ≡ added l.initial.errors (flat_map (written_longer_errors l.shorter.env l.shorter.source l.self.definition.now l.self.given.now l.written l.shorter.number l.shorter.bounds)
    (take l.number-index l.number-items))
