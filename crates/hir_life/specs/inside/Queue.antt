-- A walk on its way, from one start or several: the lifetimes that it has reached, and how many of them were given. The example
-- throughout is a walk to the longer from a in `fn f<'a, 'b: 'a, 'c: 'b, 'd>`, which has given a: it has reached a and b.
use Rattle.std.specs.Prelude.{◌≡◌, ℕ, List, [], ◌∷◌, ◌+◌, ◌<◌, ◌≤◌, length, take, slice_index, Option, Some, None}
use Rattle.std.specs.List.{Contains}
use Rattle.hir_life.specs.Environment.{Environment, followed}
use Rattle.hir_life.specs.inside.Firsts.{AreFirstNotIn}
use Rattle.hir_life.specs.Listing.{IsOnceEach}
use Rattle.hir_life.specs.Outlives.{Outlives}
use Rattle.hir_life.specs.inside.Reaching.{Reaches}
use Rattle.hir_life.specs.Walk.{Walk, candidates}
use Rattle.hir_life.specs.declared.walks.Direction.{Direction}

-- where the walk goes, the lifetimes that it has reached in the order in which it gives them, and how many it has given: a and
-- b, of which one is given
pub record Queue : Type 0 where
  pub environment : Environment
  pub direction : Direction
  pub reached : List ℕ
  pub given : ℕ

-- no lifetime is reached twice, and the bounds of those that were given were followed: b is reached since a was given
pub record IsQueue (q : Queue) : Type 0 where
  pub given_reached : q.given ≤ length q.reached
  pub within : (k : ℕ) → Contains q.reached k → k < q.environment.count
  pub once : IsOnceEach q.reached
  pub closed : (k l : ℕ) → Contains (take q.given q.reached) k → Contains (followed q.environment q.direction k) l → Contains q.reached l

-- the next one is given, and its bounds are reached: b is given, and c is reached
pub record TakesNext (q : Queue) (l : ℕ) (after : Queue) : Type 0 where
  pub waiting : q.given < length q.reached
  pub here : l ≡ slice_index q.reached q.given
  pub reaches : Reaches q.reached after.reached (followed q.environment q.direction l)
  pub follows : after ≡ record q { reached = after.reached; given = q.given + 1 }

-- one step, by what it answers
abbrev pub Moves : Queue → Option ℕ → Queue → Type 0
Moves q None after = (q.given ≡ length q.reached) × (after ≡ q)
Moves q (Some l) after = TakesNext q l after

-- a further start: d is reached, unless it was before
pub record Begins (q : Queue) (l : ℕ) (after : Queue) : Type 0 where
  pub within : l < q.environment.count
  pub reaches : Reaches q.reached after.reached (l ∷ [])
  pub follows : after ≡ record q { reached = after.reached }

-- the walk as its user sees it: it began with the first that was reached
abbrev pub walk_of : Queue → Walk
walk_of q =
    record {
      environment = q.environment;
      direction = q.direction;
      start = slice_index q.reached 0;
      given = take q.given q.reached;
    }

-- all that was reached outlives the first that was, as seen along the bounds that are followed, and stands in the order in
-- which the walk gives it
pub record IsFromFirst (q : Queue) : Type 0 where
  pub some : 0 < length q.reached
  pub belong : (k : ℕ) → Contains q.reached k → Outlives (followed q.environment q.direction) k (slice_index q.reached 0)
  pub order : AreFirstNotIn [] (candidates (walk_of q)) q.reached
