use Rattle.std.proofs.Common.{◌≡◌, drop}
use Rattle.std.specs.Cmp.Lexicographic.{pointwise}
use Rattle.hir_number.specs.Breaches.{same_lifetime}
use Rattle.hir_number.proofs.same.same_lifetimes.Given as goal

abbrev pub invariant-loop-index : goal.invariant-loop-index
invariant-loop-index l = pointwise same_lifetime l.one l.other ≡ pointwise same_lifetime (drop l.index l.one) (drop l.index l.other)
