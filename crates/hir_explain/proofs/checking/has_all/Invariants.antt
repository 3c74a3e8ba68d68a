use Rattle.std.proofs.Common.{ℕ, take}
use Rattle.std.specs.List.{Contains}
use Rattle.hir_explain.proofs.checking.has_all.Given as goal

abbrev pub invariant-loop-lifetime : goal.invariant-loop-lifetime
invariant-loop-lifetime l = (m : ℕ) → Contains (take l.lifetime-index l.lifetimes) m → Contains l.list m
