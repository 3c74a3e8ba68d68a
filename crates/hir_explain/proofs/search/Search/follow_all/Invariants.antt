use Rattle.std.proofs.Common.{ℕ, ◌<◌, ◌-◌}
use Rattle.hir_explain.specs.inside.Searching.{Grows, IsFollowed}
use Rattle.hir_explain.proofs.search.Search.follow_all.Given as goal

abbrev pub invariant-loop-place : goal.invariant-loop-place
invariant-loop-place l =
    record {
      grows : Grows l.fn.self l.self;
      followed : (p : ℕ) → p < l.place → IsFollowed l.self p;
    }

abbrev pub decreases-loop-place : goal.decreases-loop-place
decreases-loop-place l = l.self.environment.count - l.place
