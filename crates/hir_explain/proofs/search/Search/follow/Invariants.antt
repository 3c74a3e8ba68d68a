use Rattle.std.proofs.Common.{ℕ, take}
use Rattle.std.specs.List.{Contains}
use Rattle.hir_explain.specs.inside.Searching.{Grows}
use Rattle.hir_explain.proofs.search.Search.follow.Given as goal

abbrev pub invariant-loop-lifetime : goal.invariant-loop-lifetime
invariant-loop-lifetime l =
    record {
      grows : Grows l.fn.self l.self;
      reached : (k : ℕ) → Contains (take l.lifetime-index l.lifetime-items) k → Contains l.self.reached k;
    }
