use Rattle.std.proofs.Common.{◌≡◌, Ok, length, map, take}
use Rattle.hir_elide.specs.Occurrences.{Signature}
use Rattle.hir_elide.specs.Phases.{lowered_each, with_uses}
use Rattle.hir_elide.proofs.generics.lower_written.Given as goal

abbrev pub invariant-loop-lifetime : goal.invariant-loop-lifetime
invariant-loop-lifetime g l =
    (length l.lowered.items ≡ l.lifetime-index)
    × (l.lowered.capacity ≡ l.initial.lowered.capacity)
    × ((s : Signature) → g.L.StandsFor.stands l.initial.lowerer s
    → (lowered_each g.L.LowerLifetime.phase s (take l.lifetime-index l.lifetimes) ≡ map Ok l.lowered.items)
    × g.L.StandsFor.stands l.lowerer (with_uses g.L.LowerLifetime.phase s (take l.lifetime-index l.lifetimes)))
