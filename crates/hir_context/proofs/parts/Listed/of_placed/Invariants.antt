use Rattle.std.proofs.Common.{◌≡◌, ◌++◌, List, length, map, reverse}
use Rattle.hir_context.specs.declared.parts.Placed.{Placed}
use Rattle.hir_context.proofs.parts.Listed.of_placed.Given as goal

abbrev pub invariant-loop-last : goal.invariant-loop-last
invariant-loop-last g l =
    (rest : List (Placed g.row.T.Denot)) × (l.fn.placed ≡ l.left ++ rest)
    × ((l.defs.items ≡ reverse (map (λ p. p.def) rest)) × (l.modules.items ≡ reverse (map (λ p. p.module) rest)))

abbrev pub decreases-loop-last : goal.decreases-loop-last
decreases-loop-last g l = length l.left
