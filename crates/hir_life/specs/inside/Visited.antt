-- A visitor's walk.
use Rattle.std.specs.Prelude.{◌≡◌, ℕ, ◌<◌, length}
use Rattle.std.specs.List.{Contains}
use Rattle.hir_life.specs.inside.Queue.{Queue}
use Rattle.hir_life.specs.declared.walks.Direction.TheVariants.{Longer}

-- what is true of the visitor's walk between two calls: all that it reached is named, and was given
pub record HasVisited (q : Queue) : Type 0 where
  pub longer : q.direction ≡ Longer
  pub all_given : q.given ≡ length q.reached
  pub named : (k : ℕ) → Contains q.reached k → k < length q.environment.bounds
