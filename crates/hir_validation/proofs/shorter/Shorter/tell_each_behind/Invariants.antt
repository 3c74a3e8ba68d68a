use Rattle.std.proofs.Common.{◌≡◌, [], take}
use Rattle.std.specs.List.{flat_map}
use Rattle.hir_reports.specs.Store.{added}
use Rattle.hir_validation.specs.ImpliedBounds.{outliving_errors}
use Rattle.hir_validation.proofs.shorter.Shorter.tell_each_behind.Given as goal

abbrev pub invariant-loop-lifetime : goal.invariant-loop-lifetime
invariant-loop-lifetime l =
    l.errors ≡ added l.initial.errors (flat_map (outliving_errors l.self.env l.self.source l.self.number l.self.bounds []) (take l.lifetime-index l.given))
