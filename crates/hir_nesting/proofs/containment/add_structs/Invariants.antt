use Rattle.std.proofs.Common.{◌≡◌, ◌++◌, ◌+◌, ◌-◌, [], List, ℕ, length, replicate, take}
use Rattle.hir_nesting.proofs.Rows.{rows}
use Rattle.hir_nesting.proofs.containment.add_structs.Given as goal

abbrev pub invariant-loop-place : goal.invariant-loop-place
invariant-loop-place g l =
    (length l.graph ≡ length l.fn.graph)
    × ((before : List (List ℕ)) (rest : ℕ) → l.fn.graph ≡ before ++ replicate (length l.defs + rest) [] → length before ≡ l.first
    → l.graph ≡ (before ++ rows g.P.StructPath.StructPathLike.id_of l.counts.out_structs l.counts.structs (take l.place l.defs)) ++ replicate (length l.defs - l.place + rest) [])
