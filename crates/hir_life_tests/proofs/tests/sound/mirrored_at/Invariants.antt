use Rattle.std.proofs.Common.{ℕ, ◌<◌, length, get_or}
use Rattle.std.specs.List.{Contains}
use Rattle.hir_life.specs.Environment.{followed}
use Rattle.hir_life_tests.proofs.tests.sound.mirrored_at.Given as goal

abbrev pub invariant-loop-bound : goal.invariant-loop-bound
invariant-loop-bound l =
    (j : ℕ) → j < l.bound-index
    → (get_or l.bound-items j 0 < length l.nodes)
    × Contains (followed (record { bounds = l.nodes; count = 0 }) l.back (get_or l.bound-items j 0)) l.at
