use Rattle.std.proofs.Common.{◌≡◌, ◌+◌, ◌≤◌, ℕ}
use Rattle.definition_graph.specs.declared.search.Mark.TheVariants.{Unseen}
use Rattle.definition_graph.specs.inside.SearchSteps.{Holds, potential, search_mark, work_left}
use Rattle.definition_graph.proofs.search.Search.run.Given as goal

abbrev pub invariant-loop-at : goal.invariant-loop-at
invariant-loop-at g l =
    record {
      holds : Holds l.graph l.self;
      steps : l.steps + potential l.self ≤ l.initial.steps + potential l.initial.self;
      seen : (v : ℕ) → search_mark l.self v ≡ Unseen → search_mark l.initial.self v ≡ Unseen;
    }

abbrev pub decreases-loop-at : goal.decreases-loop-at
decreases-loop-at g l = work_left l.self
