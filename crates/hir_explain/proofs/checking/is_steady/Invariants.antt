use Rattle.std.proofs.Common.{ℕ, take}
use Rattle.std.specs.List.{Contains}
use Rattle.hir_life.specs.Environment.{longer_of}
use Rattle.hir_life.specs.Outlives.{Direct}
use Rattle.hir_explain.proofs.checking.is_steady.Given as goal

abbrev pub invariant-loop-lifetime : goal.invariant-loop-lifetime
invariant-loop-lifetime l =
    (m s : ℕ) → Contains (take l.lifetime-index l.long) s → Direct (longer_of l.env) m s → Contains l.long m
