use Rattle.std.proofs.Common.{◌≡◌, ◌+◌, List, Ok, ◌++◌, length, map, replicate}
use Rattle.bridge_decl.specs.declared.lifetimes.Lifetime.{Lifetime}
use Rattle.bridge_decl.specs.declared.lifetimes.Lifetime.TheVariants as written
use Rattle.hir_elide.specs.Occurrences.{Signature}
use Rattle.hir_elide.specs.Phases.{lowered_each, with_uses}
use Rattle.hir_elide.proofs.generics.lower_unwritten.Given as goal

abbrev pub invariant-loop : goal.invariant-loop
invariant-loop g l =
    (length l.lowered.items ≡ length l.initial.lowered.items + l.counter)
    × (l.lowered.capacity ≡ l.initial.lowered.capacity)
    × ((s : Signature) (ls : List Lifetime) → g.L.StandsFor.stands l.initial.lowerer (with_uses g.L.LowerLifetime.phase s ls)
    → lowered_each g.L.LowerLifetime.phase s ls ≡ map Ok l.initial.lowered.items
    → (lowered_each g.L.LowerLifetime.phase s (ls ++ replicate l.counter written.Anonymous) ≡ map Ok l.lowered.items)
    × g.L.StandsFor.stands l.lowerer (with_uses g.L.LowerLifetime.phase s (ls ++ replicate l.counter written.Anonymous)))
