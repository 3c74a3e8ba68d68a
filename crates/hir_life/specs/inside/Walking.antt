-- The fields of a walk on its way: the lifetimes that it reached, a flag for each of them, and how many it has given.
use Rattle.std.specs.Prelude.{◌≡◌, ℕ, ◌≤◌, length, take, vec_capacity}
use Rattle.std.specs.List.{Contains}
use Rattle.hir_life.specs.Environment.{followed}
use Rattle.hir_life.specs.inside.Reaching.{Marks}
use Rattle.hir_life.specs.inside.Queue.{Queue}
use Rattle.hir_life.specs.declared.walker.Walker.TheInside.{Inside}

-- the walk that the fields stand for
abbrev pub queue_of : Inside → Queue
queue_of a =
    record {
      environment = a.env.now;
      direction = a.direction;
      reached = a.order.items;
      given = a.head;
    }

-- what is true of the fields between two calls: each lifetime has its flag, there is room for all of them, and the bounds of
-- those that were given were followed
pub record IsWalking (a : Inside) : Type 0 where
  pub room : a.env.now.count ≤ vec_capacity a.order
  pub flags : length a.reached.items ≡ a.env.now.count
  pub marks : Marks a.order.items a.reached.items
  pub given_reached : a.head ≤ length a.order.items
  pub closed : (k l : ℕ) → Contains (take a.head a.order.items) k → Contains (followed a.env.now a.direction k) l → Contains a.order.items l
