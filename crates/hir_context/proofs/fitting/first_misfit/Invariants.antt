use Rattle.std.proofs.Common.{map}
use Rattle.hir_context.proofs.Telling.{FirstFit}
use Rattle.hir_context.proofs.fitting.first_misfit.Given as goal

abbrev pub invariant-loop-place : goal.invariant-loop-place
invariant-loop-place g l = FirstFit l.census g.D.Definition.symbol_at (map g.D.Definition.parts_of l.defs) l.place
