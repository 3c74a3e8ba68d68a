use Rattle.std.proofs.Common.{ℕ, take}
use Rattle.std.specs.List.{Contains}
use Rattle.hir_explain.specs.Explanations.{IsCarried}
use Rattle.hir_explain.proofs.checking.is_apart.Given as goal

abbrev pub invariant-loop-lifetime : goal.invariant-loop-lifetime
invariant-loop-lifetime l = (m : ℕ) → IsCarried (take l.lifetime-index l.carried) m → Contains l.long m → ⊥
