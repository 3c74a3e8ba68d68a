use Rattle.std.proofs.Common.{◌≡◌, length, take, vec_capacity}
use Rattle.hir_life.specs.inside.Reaching.{Marks, Reaches}
use Rattle.hir_life.proofs.reaching.reach_all.Given as goal

abbrev pub invariant-loop-lifetime : goal.invariant-loop-lifetime
invariant-loop-lifetime l =
    record {
      room : vec_capacity l.order ≡ vec_capacity l.initial.order;
      flags : length l.reached.items ≡ length l.initial.reached.items;
      marks : Marks l.order.items l.reached.items;
      reaches : Reaches l.initial.order.items l.order.items (take l.lifetime-index l.lifetimes);
    }
