use Rattle.std.proofs.Common.{◌≡◌, ◌++◌, List, length, reverse}
use Rattle.hir_fields.specs.inside.Pairs.{zipped}
use Rattle.hir_fields.proofs.joining.join_all.Given as goal

abbrev pub invariant-loop-first : goal.invariant-loop-first
invariant-loop-first g l =
    (rest : List g.row.J-First.Denot) × (behind : List g.row.J-Second.Denot) × (l.fn.firsts ≡ l.firsts ++ rest) × (l.fn.seconds ≡ l.seconds ++ behind)
    × (length l.firsts ≡ length l.seconds) × (l.all.items ≡ reverse (zipped g.J.Joins.both rest behind))

abbrev pub decreases-loop-first : goal.decreases-loop-first
decreases-loop-first g l = length l.firsts
