use Rattle.std.proofs.Common.{take}
use Rattle.std.specs.List.{All}
use Rattle.hir_fitting.specs.Fitting.{IsKnown}
use Rattle.hir_fitting.proofs.fitting.all_known.Given as goal

abbrev pub invariant-loop-lifetime : goal.invariant-loop-lifetime
invariant-loop-lifetime l = All (IsKnown l.count) (take l.lifetime-index l.lifetimes)
