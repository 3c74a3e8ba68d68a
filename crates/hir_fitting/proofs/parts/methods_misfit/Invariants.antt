use Rattle.std.proofs.Common.{map, take}
use Rattle.std.specs.List.{All}
use Rattle.hir_fitting.specs.Parts.{PartFits, method_part}
use Rattle.hir_fitting.proofs.parts.methods_misfit.Given as goal

abbrev pub invariant-loop-method : goal.invariant-loop-method
invariant-loop-method l = All (PartFits l.census) (map method_part (take l.method-index l.methods))
