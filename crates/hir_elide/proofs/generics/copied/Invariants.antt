use Rattle.std.proofs.Common.{◌≡◌, take}
use Rattle.hir_elide.proofs.generics.copied.Given as goal

abbrev pub invariant-loop-lifetime : goal.invariant-loop-lifetime
invariant-loop-lifetime l = (l.copy.items ≡ take l.lifetime-index l.lifetime-items) × (l.copy.capacity ≡ l.initial.copy.capacity)
