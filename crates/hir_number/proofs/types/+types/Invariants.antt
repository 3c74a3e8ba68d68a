use Rattle.std.proofs.Common.{drop, map}
use Rattle.hir_elide.specs.Occurrences.{Signature}
use Rattle.hir_number.specs.Naming.{IsNaming, Naming}
use Rattle.hir_number.specs.inside.Threads.{each_run, type_run}
use Rattle.hir_number.proofs.RunLemmas.{SoFar}
use Rattle.hir_number.proofs.types.+types.Given as goal

abbrev pub invariant-number_each-loop-ty : goal.invariant-number_each-loop-ty
invariant-number_each-loop-ty g l =
    (names : Naming) (s : Signature) → IsNaming l.env l.number names → g.L.StandsFor.stands l.fn.lowerer s
    → SoFar (g.L.StandsFor.stands l.lowerer) (each_run g.L.LowerLifetime.phase names l.types s) l.numbered
    (map (type_run g.L.LowerLifetime.phase names) (drop l.ty-index l.ty-items))
