use Rattle.std.proofs.Common.{drop, map}
use Rattle.hir_elide.specs.Occurrences.{Signature}
use Rattle.hir_number.specs.Naming.{IsNaming, Naming}
use Rattle.hir_number.specs.inside.Runs.{params_run}
use Rattle.hir_number.specs.inside.Threads.{type_run}
use Rattle.hir_number.proofs.RunLemmas.{SoFar}
use Rattle.hir_number.proofs.signature.number_params.Given as goal

abbrev pub invariant-loop-param : goal.invariant-loop-param
invariant-loop-param g l =
    (names : Naming) (s : Signature) → IsNaming l.env l.number names → g.L.StandsFor.stands l.fn.lowerer s
    → SoFar (g.L.StandsFor.stands l.lowerer) (params_run g.L.LowerLifetime.phase names l.params s) l.numbered
    (map (λ param. type_run g.L.LowerLifetime.phase names param.ty) (drop l.param-index l.params))
