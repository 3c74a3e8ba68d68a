use Rattle.std.proofs.Common.{drop, map}
use Rattle.hir_elide.specs.Occurrences.{Signature}
use Rattle.hir_number.specs.Naming.{IsNaming, Naming}
use Rattle.hir_number.specs.inside.Runs.{fields_run}
use Rattle.hir_number.specs.inside.Threads.{type_run}
use Rattle.hir_number.proofs.RunLemmas.{SoFar}
use Rattle.hir_number.proofs.fields.number_each_field.Given as goal

abbrev pub invariant-loop-field : goal.invariant-loop-field
invariant-loop-field g l =
    (names : Naming) (s : Signature) → IsNaming l.env l.number names → g.L.StandsFor.stands l.fn.lowerer s
    → SoFar (g.L.StandsFor.stands l.lowerer) (fields_run g.L.LowerLifetime.phase names l.fields s) l.numbered
    (map (λ field. type_run g.L.LowerLifetime.phase names field.ty) (drop l.field-index l.fields))
