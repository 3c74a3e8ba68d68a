use Rattle.std.proofs.Common.{ℕ, ◌<◌, length}
use Rattle.std.specs.List.{Contains}
use Rattle.hir_life.specs.Environment.{followed}
use Rattle.hir_life_tests.proofs.tests.sound.all_mirrored.Given as goal

abbrev pub invariant-loop-at : goal.invariant-loop-at
invariant-loop-at l =
    (k : ℕ) → k < l.at → (m : ℕ) → Contains (followed (record { bounds = l.nodes; count = 0 }) l.there k) m
    → (m < length l.nodes) × Contains (followed (record { bounds = l.nodes; count = 0 }) l.back m) k
