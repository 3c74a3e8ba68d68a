use Rattle.std.proofs.Common.{◌≡◌, ◌++◌, List, length, map, reverse}
use Rattle.std.specs.List.{enumerate_from}
use Rattle.hir_context.specs.declared.parts.Placed.{Placed}
use Rattle.hir_lower.specs.inside.Parts.{path_of_number}
use Rattle.hir_lower.proofs.placing.place_all.Given as goal

abbrev pub invariant-loop-def : goal.invariant-loop-def
invariant-loop-def g l =
    (rest : List (Placed g.row.D.Denot)) × (l.fn.defs.items ≡ l.left ++ map (λ p. p.def) rest)
    × ((l.placed.items ≡ reverse rest)
    × (map (λ p. p.«module») rest ≡ map (λ n. path_of_number l.env l.places n.0) (enumerate_from (length l.left) (map (λ p. p.def) rest))))

abbrev pub decreases-loop-def : goal.decreases-loop-def
decreases-loop-def g l = length l.left
